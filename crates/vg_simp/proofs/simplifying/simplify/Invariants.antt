use Rattle.std.proofs.Common.{◌≡◌, take}
use Rattle.vg_term.specs.Wiring.{Grown}
use Rattle.vg_simp.specs.Knowing.{IsKnown}
use Rattle.vg_simp.proofs.simplifying.simplify.Given as goal

abbrev pub invariant-loop-fact : goal.invariant-loop-fact
invariant-loop-fact l = (l.knowledge.facts.items ≡ take l.fact-index l.facts) × Grown l.fn.terms l.terms × IsKnown l.terms l.knowledge
