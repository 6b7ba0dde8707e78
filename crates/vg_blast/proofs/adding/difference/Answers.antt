use Rattle.std.proofs.Common.{◌+◌, sym, subst, arith}
use Rattle.vg_blast.specs.Adding.{Differs}
use Rattle.vg_blast.proofs.Words.{differs_more}
use Rattle.vg_blast.proofs.adding.difference.Goals as goal

pub loop-at-preserved : goal.loop-at-preserved
loop-at-preserved c =
    subst (λ items. Differs c.args.gates.now c.take_bits.new.gates items c.in_ok-bit.next c.args.a.now c.args.b.now (c.loop-at.at + 1))
    (sym c.in_ok-push.ensures.items)
    (differs_more c.args.gates.now c.loop-at.gates c.take_bits.new.gates c.args.a.now c.args.b.now c.loop-at.out.items c.loop-at.borrowed
    c.index-a-at.result c.index-b-at.result c.in_ok-bit.bit c.in_ok-bit.next c.loop-at.at
    c.loop-at-test.true (omega (arith, c.requires.same)) c.index-a-at.is c.index-b-at.is c.loop-at.invariant c.in_ok-bit.ensures)
