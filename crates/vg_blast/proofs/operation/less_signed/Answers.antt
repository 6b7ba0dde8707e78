use Rattle.std.proofs.Common.{◌∙◌}
use Rattle.vg_blast.proofs.Operating.{less_signed_made, turned_long}
use Rattle.vg_blast.proofs.operation.less_signed.Goals as goal

pub returns : goal.returns
returns c =
    less_signed_made c.args.gates.now c.less.new.gates c.args.a.now c.args.b.now c.deref.result.now c.deref-2.result.now c.less.result c.requires.some
    c.requires.same c.requires.over.0 c.requires.over.1
    (c.deref.ensures.value ∙ c.in_ok-left.ensures) (c.deref-2.ensures.value ∙ c.in_ok-right.ensures)
    (turned_long c.args.a.now c.deref.result.now c.requires.some (c.deref.ensures.value ∙ c.in_ok-left.ensures)) c.less.ensures
