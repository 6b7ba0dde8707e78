use Rattle.std.proofs.Common.{◌+◌, ◌*◌, take, cond, sym, subst, arith}
use Rattle.vg_blast.specs.Circuits.{MakesWord, truth, number}
use Rattle.vg_blast.proofs.Words.{choice_more}
use Rattle.vg_blast.proofs.comparing.choice.Goals as goal

pub loop-at-preserved : goal.loop-at-preserved
loop-at-preserved c =
    subst (λ items. MakesWord c.args.gates.now c.choice.new.self (36 * (c.loop-at.at + 1)) items (c.loop-at.at + 1)
    (λ v. cond (truth v c.args.condition) (number v (take (c.loop-at.at + 1) c.args.a.now)) (number v (take (c.loop-at.at + 1) c.args.b.now))))
    (sym c.in_ok-push.ensures.items)
    (choice_more c.args.gates.now c.loop-at.gates c.choice.new.self c.args.condition c.args.a.now c.args.b.now c.loop-at.out.items c.index-a-at.result
    c.index-b-at.result c.in_ok-bit.bit c.loop-at.at
    c.loop-at-test.true (omega (arith, c.requires.same)) c.index-a-at.is c.index-b-at.is c.loop-at.invariant c.in_ok-bit.ensures)
