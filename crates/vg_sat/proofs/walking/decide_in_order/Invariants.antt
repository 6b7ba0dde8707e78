use Rattle.vg_sat.proofs.Deciding.{Going}
use Rattle.vg_sat.proofs.walking.decide_in_order.Given as goal

abbrev pub invariant-loop-turn : goal.invariant-loop-turn
invariant-loop-turn l = Going l.fn.search l.search l.clause.items
