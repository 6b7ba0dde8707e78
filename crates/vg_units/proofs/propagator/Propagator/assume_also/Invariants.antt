use Rattle.vg_units.proofs.Assuming.{Assuming}
use Rattle.vg_units.proofs.propagator.Propagator.assume_also.Given as goal

abbrev pub invariant-loop-literal : goal.invariant-loop-literal
invariant-loop-literal l = Assuming l.initial.self l.self l.list l.literal-index
