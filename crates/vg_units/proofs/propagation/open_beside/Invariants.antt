use Rattle.std.proofs.Common.{take}
use Rattle.vg_units.specs.Propagating.{AreFalseBeside}
use Rattle.vg_units.proofs.propagation.open_beside.Given as goal

-- of the literals read so far all are false, but for that one
abbrev pub invariant-loop-literal : goal.invariant-loop-literal
invariant-loop-literal l = AreFalseBeside l.trail.literals (take l.literal-index l.clause) l.other
