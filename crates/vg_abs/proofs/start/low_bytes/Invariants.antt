use Rattle.std.proofs.Common.{◌≡◌, ◌++◌, ◌-◌}
use Rattle.vg_abs.specs.Fields as fields
use Rattle.vg_abs.proofs.start.low_bytes.Given as goal

abbrev pub invariant-loop-made : goal.invariant-loop-made
invariant-loop-made l = l.bytes.items ++ fields.low_bytes (l.count - l._made) l.rest ≡ fields.low_bytes l.count l.fn.number
