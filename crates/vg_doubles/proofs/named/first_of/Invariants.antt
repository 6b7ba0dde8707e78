use Rattle.std.proofs.Common.{◌≡◌, drop}
use Rattle.vg_doubles.specs.Named.{lookup}
use Rattle.vg_doubles.proofs.named.first_of.Given as goal

abbrev pub invariant-loop-file : goal.invariant-loop-file
invariant-loop-file l = record {
  index : l.i ≡ l.file-index;
  none : lookup (drop l.file-index l.files) l.name ≡ lookup l.files l.name;
}
