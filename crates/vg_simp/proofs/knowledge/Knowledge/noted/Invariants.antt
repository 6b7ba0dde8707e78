use Rattle.vg_simp.specs.Ranges.{IsWithin}
use Rattle.vg_simp.proofs.knowledge.Knowledge.noted.Given as goal

abbrev pub invariant-loop-bound : goal.invariant-loop-bound
invariant-loop-bound l = IsWithin l.terms l.self.facts.items l.fn.term l.range
