use Rattle.std.proofs.Common.{◌<◌, subst}
use Rattle.vg_abs.specs.Tables.{Vector}
use Rattle.vg_plain.proofs.VectorLaws.{own_arm, link_arm, own_seen, own_lends, link_lends}
use Rattle.vg_plain.proofs.ListPlaces.{some_of}
use Rattle.vg_plain.proofs.plain.PlainLibLib.borrow.Goals as goal

pub returns-in-Cells-clause-lends : goal.returns-in-Cells-clause-lends
returns-in-Cells-clause-lends c =
    let arm = own_arm c.args.self.now.objects.items c.args.vector c.holder-holder.result c.index_mut.result.now c.in-Cells.cells c.requires.vector
    c.holder-holder.ensures c.index_mut.ensures.value c.in-Cells.is in
    own_lends _ _ _ _ _ _ arm.1 arm.0 (subst (λ (v : Vector). c.args.index < v.cell_count)
    (own_seen c.args.self.now.objects.items c.args.vector c.in-Cells.cells arm.0) c.requires.inside) c.borrow.ensures.lent c.borrow.ensures.now

pub returns-in-Map-clause-lends : goal.returns-in-Map-clause-lends
returns-in-Map-clause-lends c =
    let arm = link_arm c.args.self.now.objects.items c.args.vector c.holder-holder.result c.index_mut.result.now c.in-Map.link c.requires.vector
    c.holder-holder.ensures c.index_mut.ensures.value c.in-Map.is in
    let cell = some_of _ c.borrow-in-Map.ensures.cell in
    link_lends _ _ _ _ _ _ arm.1 arm.0 cell.0 cell.1 c.borrow-in-Map.ensures.lent c.borrow-in-Map.ensures.now
