use Rattle.std.proofs.Common.{arith}
use Rattle.vg_blast.proofs.Words.{equals_more}
use Rattle.vg_blast.proofs.comparing.equal.Goals as goal

pub loop-at-preserved : goal.loop-at-preserved
loop-at-preserved c =
    equals_more c.args.gates.now c.loop-at.gates c.xor.new.self c.and.new.self c.args.a.now c.args.b.now c.index-a-at.result c.index-b-at.result
    c.loop-at.same c.in_ok-one.one c.negated.result c.in_ok-same.same c.loop-at.at
    c.loop-at-test.true (omega (arith, c.requires.same)) c.index-a-at.is c.index-b-at.is c.loop-at.invariant c.in_ok-one.ensures c.negated.ensures
    c.in_ok-same.ensures
