use Rattle.vg_simp.proofs.Sames.{flags_later}
use Rattle.vg_simp.proofs.Constants.{closed_later}
use Rattle.vg_simp.proofs.simplifying.simplify.Goals as goal

pub learn-requires-clause-flag : goal.learn-requires-clause-flag
learn-requires-clause-flag c = flags_later c.args.terms.now c.loop-fact.terms c.args.facts.now c.loop-fact.fact-index (record { 0 = 0 })
    c.loop-fact.invariant.1 c.requires.facts c.requires.flags c.loop-fact-test.true

pub returns-clause-constant : goal.returns-clause-constant
returns-clause-constant c closed = c.simplified.ensures.closed.constant (closed_later c.loop-fact.invariant.1.grows closed)
