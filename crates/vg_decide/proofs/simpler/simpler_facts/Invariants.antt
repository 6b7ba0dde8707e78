use Rattle.vg_decide.proofs.Passing.{Passed}
use Rattle.vg_decide.proofs.simpler.simpler_facts.Given as goal

-- the facts so far, simplified
abbrev pub invariant-loop-fact : goal.invariant-loop-fact
invariant-loop-fact l = Passed l.initial.terms l.terms l.facts l.simpler.items l.fact-index
