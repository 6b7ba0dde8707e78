use Rattle.vg_sat.proofs.Deciding.{Going}
use Rattle.vg_sat.proofs.walking.assume_in_turn.Given as goal

abbrev pub invariant-loop-literal : goal.invariant-loop-literal
invariant-loop-literal l = Going l.fn.search l.search l.clause.items
