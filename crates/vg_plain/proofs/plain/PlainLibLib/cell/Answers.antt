use Rattle.std.proofs.Common.{◌∙◌, ap, true}
use Rattle.std.specs.FinMap.{get}
use Rattle.vg_abs.specs.Tables.{Vector}
use Rattle.vg_plain.proofs.Places.{cell_is}
use Rattle.vg_plain.proofs.VectorLaws.{own_arm, link_arm, no_arm, own_was, link_was, own_seen, link_seen}
use Rattle.vg_plain.proofs.plain.PlainLibLib.cell.Goals as goal

pub cell-requires : goal.cell-requires
cell-requires c =
    let arm = own_arm c.args.self.now.objects.items c.args.vector c.holder-holder.result c.index.result.now c.in-Cells.cells c.requires.vector
    c.holder-holder.ensures c.index.ensures c.in-Cells.is in
    own_was c.args.self.now.objects.items c.args.vector c.args.index c.in-Cells.cells true arm.0 c.requires.lent

pub cell-requires-in-Map : goal.cell-requires-in-Map
cell-requires-in-Map c =
    let arm = link_arm c.args.self.now.objects.items c.args.vector c.holder-holder.result c.index.result.now c.in-Map.link c.requires.vector
    c.holder-holder.ensures c.index.ensures c.in-Map.is in
    link_was c.args.self.now.objects.items c.args.vector c.args.index c.in-Map.link true arm.0 c.requires.lent

pub unreachable-requires : goal.unreachable-requires
unreachable-requires c = no_arm c.args.self.now.objects.items c.args.vector c.holder-holder.result c.index.result.now c.requires.vector
    c.holder-holder.ensures c.index.ensures c.in_default.not-Map c.in_default.not-Cells

pub returns-in-Cells : goal.returns-in-Cells
returns-in-Cells c told =
    let arm = own_arm c.args.self.now.objects.items c.args.vector c.holder-holder.result c.index.result.now c.in-Cells.cells c.requires.vector
    c.holder-holder.ensures c.index.ensures c.in-Cells.is in
    ap (λ (v : Vector). get v.cells c.args.index) (own_seen c.args.self.now.objects.items c.args.vector c.in-Cells.cells arm.0)
    ∙ cell_is c.in-Cells.cells.cells c.args.index ∙ c.cell.ensures

pub returns-in-Map : goal.returns-in-Map
returns-in-Map c told =
    let arm = link_arm c.args.self.now.objects.items c.args.vector c.holder-holder.result c.index.result.now c.in-Map.link c.requires.vector
    c.holder-holder.ensures c.index.ensures c.in-Map.is in
    ap (λ (v : Vector). get v.cells c.args.index) (link_seen c.args.self.now.objects.items c.args.vector c.in-Map.link arm.0) ∙ c.cell-in-Map.ensures
