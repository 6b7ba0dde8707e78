use Rattle.std.proofs.Common.{take}
use Rattle.vg_units.specs.Propagating.{AreFalse}
use Rattle.vg_units.proofs.propagator.open_literal.Given as goal

-- the literals read so far are false
abbrev pub invariant-loop-literal : goal.invariant-loop-literal
invariant-loop-literal l = AreFalse l.trail.literals (take l.literal-index l.clause)
