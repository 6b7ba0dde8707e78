use Rattle.std.proofs.Common.{true}
use Rattle.vg_plain.proofs.VectorLaws.{own_arm, link_arm, own_back, link_back, own_was, link_was, lent_given}
use Rattle.vg_plain.proofs.plain.PlainLibLib.give_back.Goals as goal

pub returns-in-Cells : goal.returns-in-Cells
returns-in-Cells c =
    let arm = own_arm c.args.self.now.objects.items c.args.vector c.holder-holder.result c.index_mut.result.now c.in-Cells.cells c.requires.vector
    c.holder-holder.ensures c.index_mut.ensures.value c.in-Cells.is in
    own_back _ _ _ _ _ _ arm.1 arm.0 (own_was c.args.self.now.objects.items c.args.vector _ c.in-Cells.cells true arm.0
    (lent_given c.args.self.now.objects.items c.args.vector _ c.requires.lent)) c.give_back.ensures

pub returns-in-Map : goal.returns-in-Map
returns-in-Map c =
    let arm = link_arm c.args.self.now.objects.items c.args.vector c.holder-holder.result c.index_mut.result.now c.in-Map.link c.requires.vector
    c.holder-holder.ensures c.index_mut.ensures.value c.in-Map.is in
    link_back _ _ _ _ _ _ arm.1 arm.0 (link_was c.args.self.now.objects.items c.args.vector _ c.in-Map.link true arm.0
    (lent_given c.args.self.now.objects.items c.args.vector _ c.requires.lent)) c.give_back-in-Map.ensures
