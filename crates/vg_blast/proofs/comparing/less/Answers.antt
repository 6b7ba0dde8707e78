use Rattle.std.proofs.Common.{arith}
use Rattle.vg_blast.proofs.Words.{less_than_more}
use Rattle.vg_blast.proofs.comparing.less.Goals as goal

pub loop-at-preserved : goal.loop-at-preserved
loop-at-preserved c =
    less_than_more c.args.gates.now c.loop-at.gates c.borrow_bit.new.gates c.args.a.now c.args.b.now c.index-a-at.result c.index-b-at.result
    c.loop-at.borrowed c.in_ok-borrowed.borrowed c.loop-at.at
    (omega (arith, c.loop-at-test.true)) (omega (arith, c.requires.same)) c.index-a-at.is c.index-b-at.is c.loop-at.invariant c.in_ok-borrowed.ensures
