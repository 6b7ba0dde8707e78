use Rattle.vg_simp.specs.Sameness.{IsSame}
use Rattle.vg_simp.proofs.knowledge.Knowledge.replaced.Given as goal

abbrev pub invariant-loop : goal.invariant-loop
invariant-loop l = IsSame l.terms l.self.facts.items l.fn.term l.last
