use Rattle.std.proofs.Common.{◌+◌, ◌%◌, ◌^◌, sym, subst}
use Rattle.vg_blast.specs.Circuits.{IsConstant}
use Rattle.vg_blast.proofs.Words.{constant_more}
use Rattle.vg_blast.proofs.wiring.constant.Goals as goal

pub loop-at-preserved : goal.loop-at-preserved
loop-at-preserved c =
    subst (λ items. IsConstant items (c.loop-at.at + 1) (c.args.word.value % 2 ^ (c.loop-at.at + 1))) (sym c.in_ok-push.ensures.items)
    (constant_more c.loop-at.out.items c.loop-at.at c.args.word.value c.known.result c.bit_of.result c.loop-at.invariant c.bit_of.ensures c.known.ensures)
