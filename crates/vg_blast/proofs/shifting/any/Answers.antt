use Rattle.vg_blast.proofs.Shifts.{any_more}
use Rattle.vg_blast.proofs.shifting.any.Goals as goal

pub loop-at-preserved : goal.loop-at-preserved
loop-at-preserved c =
    any_more c.args.gates.now c.loop-at.gates c.or.new.self c.args.literals.now c.index-literals-at.result c.loop-at.some c.in_ok-some.some c.loop-at.at
    c.loop-at-test.true c.index-literals-at.is c.loop-at.invariant c.in_ok-some.ensures
