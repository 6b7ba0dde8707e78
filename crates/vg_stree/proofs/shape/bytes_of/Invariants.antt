use Rattle.std.proofs.Common.{◌≡◌, ◌+◌, ◌*◌, ◌≤◌, drop}
use Rattle.vg_stree.specs.Declarations.{bytes_of}
use Rattle.vg_stree.proofs.shape.bytes_of.Given as goal

abbrev pub invariant-loop-field : goal.invariant-loop-field
invariant-loop-field l = record {
  bytes : l.bytes + bytes_of (drop l.field-index l.fields) ≡ bytes_of l.fields;
  small : l.bytes ≤ 255 * l.field-index;
}
