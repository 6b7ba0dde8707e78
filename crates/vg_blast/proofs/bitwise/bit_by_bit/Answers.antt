use Rattle.std.proofs.Common.{◌+◌, ◌*◌, take, sym, subst, arith}
use Rattle.vg_blast.specs.Circuits.{MakesWord, number}
use Rattle.vg_blast.specs.Bitwise.{number_by}
use Rattle.vg_blast.proofs.Words.{bitwise_more}
use Rattle.vg_blast.proofs.bitwise.bit_by_bit.Goals as goal

pub loop-at-preserved : goal.loop-at-preserved
loop-at-preserved c =
    subst (λ items. MakesWord c.args.gates.now c.bit.new.gates (12 * (c.loop-at.at + 1)) items (c.loop-at.at + 1)
    (λ v. number_by c.args.op (number v (take (c.loop-at.at + 1) c.args.a.now)) (number v (take (c.loop-at.at + 1) c.args.b.now))))
    (sym c.in_ok-push.ensures.items)
    (bitwise_more c.args.gates.now c.loop-at.gates c.bit.new.gates c.args.op c.args.a.now c.args.b.now c.loop-at.out.items c.index-a-at.result
    c.index-b-at.result c.in_ok-literal.literal c.loop-at.at
    c.loop-at-test.true (omega (arith, c.requires.same)) c.index-a-at.is c.index-b-at.is c.loop-at.invariant c.in_ok-literal.ensures)
