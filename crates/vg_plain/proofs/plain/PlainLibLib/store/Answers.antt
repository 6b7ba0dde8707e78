use Rattle.std.proofs.Common.{◌∙◌, ap, true}
use Rattle.std.specs.FinMap.{get}
use Rattle.vg_abs.specs.Tables.{Vector}
use Rattle.vg_plain.proofs.ListPlaces.{some_of}
use Rattle.vg_plain.proofs.Places.{cell_is}
use Rattle.vg_plain.proofs.VectorLaws.{own_arm, link_arm, no_arm, own_was, link_was, own_seen, link_seen, own_stores, link_stores}
use Rattle.vg_plain.proofs.plain.PlainLibLib.store.Goals as goal

pub store-requires-clause-lent : goal.store-requires-clause-lent
store-requires-clause-lent c =
    let arm = own_arm c.args.self.now.objects.items c.args.vector c.holder-holder.result c.index_mut.result.now c.in-Cells.cells c.requires.vector
    c.holder-holder.ensures c.index_mut.ensures.value c.in-Cells.is in
    own_was c.args.self.now.objects.items c.args.vector c.args.index c.in-Cells.cells true arm.0 c.requires.lent

pub store-requires-clause-within : goal.store-requires-clause-within
store-requires-clause-within c cell there =
    let arm = own_arm c.args.self.now.objects.items c.args.vector c.holder-holder.result c.index_mut.result.now c.in-Cells.cells c.requires.vector
    c.holder-holder.ensures c.index_mut.ensures.value c.in-Cells.is in
    c.requires.within cell (ap (λ (v : Vector). get v.cells c.args.index) (own_seen c.args.self.now.objects.items c.args.vector c.in-Cells.cells
    arm.0) ∙ cell_is c.in-Cells.cells.cells c.args.index ∙ there)

pub store-requires-in-Map-clause-lent : goal.store-requires-in-Map-clause-lent
store-requires-in-Map-clause-lent c =
    let arm = link_arm c.args.self.now.objects.items c.args.vector c.holder-holder.result c.index_mut.result.now c.in-Map.link c.requires.vector
    c.holder-holder.ensures c.index_mut.ensures.value c.in-Map.is in
    link_was c.args.self.now.objects.items c.args.vector c.args.index c.in-Map.link true arm.0 c.requires.lent

pub store-requires-in-Map-clause-within : goal.store-requires-in-Map-clause-within
store-requires-in-Map-clause-within c cell there =
    let arm = link_arm c.args.self.now.objects.items c.args.vector c.holder-holder.result c.index_mut.result.now c.in-Map.link c.requires.vector
    c.holder-holder.ensures c.index_mut.ensures.value c.in-Map.is in
    c.requires.within cell (ap (λ (v : Vector). get v.cells c.args.index) (link_seen c.args.self.now.objects.items c.args.vector c.in-Map.link arm.0) ∙ there)

pub unreachable-requires : goal.unreachable-requires
unreachable-requires c = no_arm c.args.self.now.objects.items c.args.vector c.holder-holder.result c.index_mut.result.now c.requires.vector
    c.holder-holder.ensures c.index_mut.ensures.value c.in_default.not-Map c.in_default.not-Cells

pub returns-in-Cells : goal.returns-in-Cells
returns-in-Cells c =
    let arm = own_arm c.args.self.now.objects.items c.args.vector c.holder-holder.result c.index_mut.result.now c.in-Cells.cells c.requires.vector
    c.holder-holder.ensures c.index_mut.ensures.value c.in-Cells.is in
    let cell = some_of _ c.store.ensures.cell in
    own_stores c.args.self.now.objects.items c.args.vector c.holder-holder.result c.args.index c.args.from c.args.bytes.now c.in-Cells.cells _ arm.1
    arm.0 cell.0 cell.1 c.store.ensures.stored

pub returns-in-Map : goal.returns-in-Map
returns-in-Map c =
    let arm = link_arm c.args.self.now.objects.items c.args.vector c.holder-holder.result c.index_mut.result.now c.in-Map.link c.requires.vector
    c.holder-holder.ensures c.index_mut.ensures.value c.in-Map.is in
    let cell = some_of _ c.store-in-Map.ensures.cell in
    link_stores c.args.self.now.objects.items c.args.vector c.holder-holder.result c.args.index c.args.from c.args.bytes.now c.in-Map.link _ arm.1
    arm.0 cell.0 cell.1 c.store-in-Map.ensures.stored
