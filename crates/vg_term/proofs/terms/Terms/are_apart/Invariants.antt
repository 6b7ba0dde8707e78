use Rattle.vg_term.specs.Wiring.{AreApart}
use Rattle.vg_term.proofs.terms.Terms.are_apart.Given as goal

abbrev pub invariant-loop-at : goal.invariant-loop-at
invariant-loop-at l = AreApart l.self l.a l.b l.at
