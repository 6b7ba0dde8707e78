use Rattle.std.proofs.Common.{◌<◌, List, ap, subst}
use Rattle.vg_abs.specs.Tables.{Vector}
use Rattle.vg_abs.specs.Library.{Lends}
use Rattle.vg_plain.specs.declared.object.PlainObject.{PlainObject}
use Rattle.vg_plain.proofs.ListPlaces.{some_of}
use Rattle.vg_plain.proofs.StateLaws.{as_library}
use Rattle.vg_plain.proofs.VectorLaws.{own_arm, link_arm, own_seen, own_lends, link_lends}
use Rattle.vg_store.specs.declared.object.RealObject.TheVariants.{Map, Cells}
use Rattle.vg_store.specs.RealLinks.{seen}
use Rattle.vg_store.specs.RealStates.{as_plain, plainly}
use Rattle.vg_store.proofs.RealLaws.{set_plainly, read_plain}
use Rattle.vg_store.proofs.real.RealLibLib.borrow.Goals as goal

pub borrow-requires-clause-inside : goal.borrow-requires-clause-inside
borrow-requires-clause-inside c =
    let items = c.args.self.now.objects.items in
    let arm = own_arm (plainly items) c.args.vector c.holder-holder.result (as_plain c.index_mut.result.now) c.in-Cells.cells c.requires.vector
    c.holder-holder.ensures (read_plain items c.holder-holder.result c.index_mut.result.now c.index_mut.ensures.value) (ap as_plain c.in-Cells.is)
    in
    subst (λ (v : Vector). c.args.index < v.cell_count) (own_seen (plainly items) c.args.vector c.in-Cells.cells arm.0) c.requires.inside

pub returns-in-Cells-clause-lends : goal.returns-in-Cells-clause-lends
returns-in-Cells-clause-lends c =
    let items = c.args.self.now.objects.items in
    let arm = own_arm (plainly items) c.args.vector c.holder-holder.result (as_plain c.index_mut.result.now) c.in-Cells.cells c.requires.vector
    c.holder-holder.ensures (read_plain items c.holder-holder.result c.index_mut.result.now c.index_mut.ensures.value) (ap as_plain c.in-Cells.is)
    in
    set_plainly (λ (kept : List PlainObject). Lends (as_library (plainly items)) (as_library kept) c.args.vector c.args.index) items
    c.holder-holder.result (Cells c.borrow.new.self)
    (own_lends (plainly items) c.args.vector c.holder-holder.result c.args.index c.in-Cells.cells c.borrow.new.self arm.1 arm.0
    (subst (λ (v : Vector). c.args.index < v.cell_count) (own_seen (plainly items) c.args.vector c.in-Cells.cells arm.0) c.requires.inside)
    c.borrow.ensures.lent c.borrow.ensures.now)

pub returns-in-Map-clause-lends : goal.returns-in-Map-clause-lends
returns-in-Map-clause-lends c =
    let items = c.args.self.now.objects.items in
    let arm = link_arm (plainly items) c.args.vector c.holder-holder.result (as_plain c.index_mut.result.now) (seen c.in-Map.link) c.requires.vector
    c.holder-holder.ensures (read_plain items c.holder-holder.result c.index_mut.result.now c.index_mut.ensures.value) (ap as_plain c.in-Map.is)
    in
    let cell = some_of _ c.borrow-in-Map.ensures.cell in
    set_plainly (λ (kept : List PlainObject). Lends (as_library (plainly items)) (as_library kept) c.args.vector c.args.index) items
    c.holder-holder.result (Map c.borrow-in-Map.new.self)
    (link_lends (plainly items) c.args.vector c.holder-holder.result c.args.index (seen c.in-Map.link) (seen c.borrow-in-Map.new.self) arm.1 arm.0
    cell.0 cell.1 c.borrow-in-Map.ensures.lent c.borrow-in-Map.ensures.now)
