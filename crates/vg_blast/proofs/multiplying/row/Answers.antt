use Rattle.vg_blast.proofs.Products.{row_result}
use Rattle.vg_blast.proofs.multiplying.row.Goals as goal

pub returns : goal.returns
returns c =
    row_result c.args.gates.now c.choice.new.gates c.args.b.now c.in_ok-moved.moved.items c.in_ok-nothing.nothing.items c.deref.result.now
    c.deref-2.result.now c.args.bit c.falsity-falsity.result c.args.by c.choice.result
    c.falsity-falsity.ensures.stood c.falsity-falsity.ensures.literal c.requires.within c.in_ok-moved.ensures c.deref.ensures.value
    c.in_ok-nothing.ensures c.deref-2.ensures.value c.choice.ensures
