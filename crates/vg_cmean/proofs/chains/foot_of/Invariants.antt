use Rattle.vg_cmean.specs.Chains.{IsChain}
use Rattle.vg_cmean.proofs.chains.foot_of.Given as goal

abbrev pub decreases-loop-first : goal.decreases-loop-first
decreases-loop-first l = l.node

abbrev pub invariant-loop-first : goal.invariant-loop-first
invariant-loop-first l = IsChain l.env.unit.now l.env.above.now l.n l.links l.node
