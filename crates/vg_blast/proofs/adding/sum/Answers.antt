use Rattle.std.proofs.Common.{◌+◌, length, refl, sym, subst, arith}
use Rattle.vg_blast.specs.Adding.{Sums}
use Rattle.vg_blast.proofs.Words.{sums_more, sum_made}
use Rattle.vg_blast.proofs.adding.sum.Goals as goal

pub loop-at-preserved : goal.loop-at-preserved
loop-at-preserved c =
    subst (λ items. Sums c.args.gates.now c.add_bits.new.gates items c.in_ok-bit.next c.args.a.now c.args.b.now (c.loop-at.at + 1))
    (sym c.in_ok-push.ensures.items)
    (sums_more c.args.gates.now c.loop-at.gates c.add_bits.new.gates c.args.a.now c.args.b.now c.loop-at.out.items c.loop-at.carry c.index-a-at.result
    c.index-b-at.result c.in_ok-bit.bit c.in_ok-bit.next c.loop-at.at
    c.loop-at-test.true (omega (arith, c.requires.same)) c.index-a-at.is c.index-b-at.is c.loop-at.invariant c.in_ok-bit.ensures)

pub returns : goal.returns
returns c =
    sum_made c.args.gates.now c.loop-at.gates c.loop-at.out.items c.loop-at.carry c.args.a.now c.args.b.now c.loop-at.at (length c.args.a.now) refl
    c.requires.same c.loop-at-test.false c.loop-at.auto.at-end c.loop-at.invariant
