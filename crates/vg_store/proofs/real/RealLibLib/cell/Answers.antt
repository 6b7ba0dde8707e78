use Rattle.std.proofs.Common.{◌∙◌, ap, true}
use Rattle.std.specs.FinMap.{get}
use Rattle.vg_abs.specs.Tables.{Vector}
use Rattle.vg_plain.proofs.Places.{cell_is}
use Rattle.vg_plain.proofs.VectorLaws.{own_arm, link_arm, own_seen, link_seen, own_was, link_was}
use Rattle.vg_store.specs.RealLinks.{seen}
use Rattle.vg_store.specs.RealStates.{as_plain, plainly}
use Rattle.vg_store.proofs.RealLaws.{read_plain, real_no_arm}
use Rattle.vg_store.proofs.real.RealLibLib.cell.Goals as goal

pub lent_cell-requires : goal.lent_cell-requires
lent_cell-requires c =
    let items = c.args.self.now.objects.items in
    let arm = own_arm (plainly items) c.args.vector c.holder-holder.result (as_plain c.index.result.now) c.in-Cells.cells c.requires.vector
    c.holder-holder.ensures (read_plain items c.holder-holder.result c.index.result.now c.index.ensures) (ap as_plain c.in-Cells.is) in
    own_was (plainly items) c.args.vector c.args.index c.in-Cells.cells true arm.0 c.requires.lent

pub cell-requires : goal.cell-requires
cell-requires c =
    let items = c.args.self.now.objects.items in
    let arm = link_arm (plainly items) c.args.vector c.holder-holder.result (as_plain c.index.result.now) (seen c.in-Map.link) c.requires.vector
    c.holder-holder.ensures (read_plain items c.holder-holder.result c.index.result.now c.index.ensures) (ap as_plain c.in-Map.is) in
    link_was (plainly items) c.args.vector c.args.index (seen c.in-Map.link) true arm.0 c.requires.lent

pub unreachable-requires : goal.unreachable-requires
unreachable-requires c = real_no_arm c.args.self.now.objects.items c.args.vector c.holder-holder.result c.index.result.now c.requires.vector
    c.holder-holder.ensures c.index.ensures c.in_default.not-Map c.in_default.not-Cells

pub returns-in-Cells : goal.returns-in-Cells
returns-in-Cells c told =
    let items = c.args.self.now.objects.items in
    let arm = own_arm (plainly items) c.args.vector c.holder-holder.result (as_plain c.index.result.now) c.in-Cells.cells c.requires.vector
    c.holder-holder.ensures (read_plain items c.holder-holder.result c.index.result.now c.index.ensures) (ap as_plain c.in-Cells.is) in
    ap (λ (v : Vector). get v.cells c.args.index) (own_seen (plainly items) c.args.vector c.in-Cells.cells arm.0)
    ∙ cell_is c.in-Cells.cells.cells c.args.index ∙ c.lent_cell.ensures.value

pub returns-in-Map : goal.returns-in-Map
returns-in-Map c told =
    let items = c.args.self.now.objects.items in
    let arm = link_arm (plainly items) c.args.vector c.holder-holder.result (as_plain c.index.result.now) (seen c.in-Map.link) c.requires.vector
    c.holder-holder.ensures (read_plain items c.holder-holder.result c.index.result.now c.index.ensures) (ap as_plain c.in-Map.is) in
    ap (λ (v : Vector). get v.cells c.args.index) (link_seen (plainly items) c.args.vector (seen c.in-Map.link) arm.0) ∙ c.cell.ensures
