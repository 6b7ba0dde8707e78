use Rattle.std.proofs.Common.{◌∙◌, List, ap, true}
use Rattle.std.specs.FinMap.{get}
use Rattle.vg_abs.specs.Tables.{Vector}
use Rattle.vg_abs.specs.Library.{Stores}
use Rattle.vg_plain.specs.declared.object.PlainObject.{PlainObject}
use Rattle.vg_plain.proofs.ListPlaces.{some_of}
use Rattle.vg_plain.proofs.Places.{cell_is}
use Rattle.vg_plain.proofs.StateLaws.{as_library}
use Rattle.vg_plain.proofs.VectorLaws.{own_arm, link_arm, own_seen, link_seen, own_was, link_was, own_stores, link_stores}
use Rattle.vg_store.specs.declared.object.RealObject.TheVariants.{Map, Cells}
use Rattle.vg_store.specs.RealLinks.{seen}
use Rattle.vg_store.specs.RealStates.{as_plain, plainly}
use Rattle.vg_store.proofs.RealLaws.{set_plainly, read_plain, real_no_arm}
use Rattle.vg_store.proofs.real.RealLibLib.store.Goals as goal

pub store-requires-clause-lent : goal.store-requires-clause-lent
store-requires-clause-lent c =
    let items = c.args.self.now.objects.items in
    let arm = own_arm (plainly items) c.args.vector c.holder-holder.result (as_plain c.index_mut.result.now) c.in-Cells.cells c.requires.vector
    c.holder-holder.ensures (read_plain items c.holder-holder.result c.index_mut.result.now c.index_mut.ensures.value) (ap as_plain c.in-Cells.is)
    in
    own_was (plainly items) c.args.vector c.args.index c.in-Cells.cells true arm.0 c.requires.lent

pub store-requires-clause-within : goal.store-requires-clause-within
store-requires-clause-within c cell there =
    let items = c.args.self.now.objects.items in
    let arm = own_arm (plainly items) c.args.vector c.holder-holder.result (as_plain c.index_mut.result.now) c.in-Cells.cells c.requires.vector
    c.holder-holder.ensures (read_plain items c.holder-holder.result c.index_mut.result.now c.index_mut.ensures.value) (ap as_plain c.in-Cells.is)
    in
    c.requires.within cell (ap (λ (v : Vector). get v.cells c.args.index) (own_seen (plainly items) c.args.vector c.in-Cells.cells arm.0)
    ∙ cell_is c.in-Cells.cells.cells c.args.index ∙ there)

pub store-requires-in-Map-clause-lent : goal.store-requires-in-Map-clause-lent
store-requires-in-Map-clause-lent c =
    let items = c.args.self.now.objects.items in
    let arm = link_arm (plainly items) c.args.vector c.holder-holder.result (as_plain c.index_mut.result.now) (seen c.in-Map.link) c.requires.vector
    c.holder-holder.ensures (read_plain items c.holder-holder.result c.index_mut.result.now c.index_mut.ensures.value) (ap as_plain c.in-Map.is)
    in
    link_was (plainly items) c.args.vector c.args.index (seen c.in-Map.link) true arm.0 c.requires.lent

pub store-requires-in-Map-clause-within : goal.store-requires-in-Map-clause-within
store-requires-in-Map-clause-within c cell there =
    let items = c.args.self.now.objects.items in
    let arm = link_arm (plainly items) c.args.vector c.holder-holder.result (as_plain c.index_mut.result.now) (seen c.in-Map.link) c.requires.vector
    c.holder-holder.ensures (read_plain items c.holder-holder.result c.index_mut.result.now c.index_mut.ensures.value) (ap as_plain c.in-Map.is)
    in
    c.requires.within cell (ap (λ (v : Vector). get v.cells c.args.index) (link_seen (plainly items) c.args.vector (seen c.in-Map.link) arm.0) ∙ there)

pub unreachable-requires : goal.unreachable-requires
unreachable-requires c = real_no_arm c.args.self.now.objects.items c.args.vector c.holder-holder.result c.index_mut.result.now c.requires.vector
    c.holder-holder.ensures c.index_mut.ensures.value c.in_default.not-Map c.in_default.not-Cells

pub returns-in-Cells : goal.returns-in-Cells
returns-in-Cells c =
    let items = c.args.self.now.objects.items in
    let arm = own_arm (plainly items) c.args.vector c.holder-holder.result (as_plain c.index_mut.result.now) c.in-Cells.cells c.requires.vector
    c.holder-holder.ensures (read_plain items c.holder-holder.result c.index_mut.result.now c.index_mut.ensures.value) (ap as_plain c.in-Cells.is)
    in
    let cell = some_of _ c.store.ensures.cell in
    set_plainly (λ (kept : List PlainObject). Stores (as_library (plainly items)) (as_library kept) c.args.vector c.args.index c.args.from
    c.args.bytes.now) items c.holder-holder.result (Cells c.store.new.self)
    (own_stores (plainly items) c.args.vector c.holder-holder.result c.args.index c.args.from c.args.bytes.now c.in-Cells.cells c.store.new.self arm.1
    arm.0 cell.0 cell.1 c.store.ensures.stored)

pub returns-in-Map : goal.returns-in-Map
returns-in-Map c =
    let items = c.args.self.now.objects.items in
    let arm = link_arm (plainly items) c.args.vector c.holder-holder.result (as_plain c.index_mut.result.now) (seen c.in-Map.link) c.requires.vector
    c.holder-holder.ensures (read_plain items c.holder-holder.result c.index_mut.result.now c.index_mut.ensures.value) (ap as_plain c.in-Map.is)
    in
    let cell = some_of _ c.store-in-Map.ensures.cell in
    set_plainly (λ (kept : List PlainObject). Stores (as_library (plainly items)) (as_library kept) c.args.vector c.args.index c.args.from
    c.args.bytes.now) items c.holder-holder.result (Map c.store-in-Map.new.self)
    (link_stores (plainly items) c.args.vector c.holder-holder.result c.args.index c.args.from c.args.bytes.now (seen c.in-Map.link)
    (seen c.store-in-Map.new.self) arm.1 arm.0 cell.0 cell.1 c.store-in-Map.ensures.stored)
