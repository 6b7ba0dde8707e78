use Rattle.vg_simp.specs.Places.{IsPlace}
use Rattle.vg_simp.proofs.knowledge.Knowledge.place_of.Given as goal

abbrev pub invariant-loop : goal.invariant-loop
invariant-loop l = IsPlace l.terms l.self.facts.items l.fn.term l.place
