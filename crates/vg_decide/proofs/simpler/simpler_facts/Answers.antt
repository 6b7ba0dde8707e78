use Rattle.std.proofs.Common.{arith}
use Rattle.vg_decide.proofs.Passing.{none_passed, passed_on, all_passed}
use Rattle.vg_decide.proofs.simpler.simpler_facts.Goals as goal

pub loop-fact-init : goal.loop-fact-init
loop-fact-init c = rw c.new-simpler.ensures.items (none_passed c.args.terms.now c.args.facts.now c.len-count.ensures.made)

pub loop-fact-preserved : goal.loop-fact-preserved
loop-fact-preserved c =
    let kept = rw c.deref.ensures.value at c.in_ok-other.ensures.kept in
    rw c.in_ok-push.ensures.items (passed_on c.loop-fact.fact-index _ c.in_ok-other.other c.requires.stand c.requires.flags c.loop-fact.invariant
    c.simplify.ensures.grown kept c.loop-fact-test.true)

pub returns-clause-simpler : goal.returns-clause-simpler
returns-clause-simpler c = all_passed c.loop-fact.fact-index c.loop-fact.invariant (omega (arith, c.loop-fact-test.false, c.loop-fact.auto.fact-index-end))
