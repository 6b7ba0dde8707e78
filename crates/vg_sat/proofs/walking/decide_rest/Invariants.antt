use Rattle.vg_sat.proofs.Choosing.{AreAssignedTo}
use Rattle.vg_sat.proofs.Deciding.{Going}
use Rattle.vg_sat.proofs.walking.decide_rest.Given as goal

abbrev pub invariant-loop-before : goal.invariant-loop-before
invariant-loop-before l = record { going : Going l.fn.search l.search l.clause.items; assigned : AreAssignedTo l.search.trail l.before }
