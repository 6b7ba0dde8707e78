use Rattle.std.proofs.Common.{List, ap, true}
use Rattle.vg_abs.specs.Library.{TakesBack}
use Rattle.vg_plain.specs.declared.object.PlainObject.{PlainObject}
use Rattle.vg_plain.proofs.StateLaws.{as_library}
use Rattle.vg_plain.proofs.VectorLaws.{own_arm, link_arm, own_was, link_was, own_back, link_back, lent_given}
use Rattle.vg_store.specs.declared.object.RealObject.TheVariants.{Map, Cells}
use Rattle.vg_store.specs.RealLinks.{seen}
use Rattle.vg_store.specs.RealStates.{as_plain, plainly}
use Rattle.vg_store.proofs.RealLaws.{set_plainly, read_plain}
use Rattle.vg_store.proofs.real.RealLibLib.give_back.Goals as goal

pub returns-in-Cells : goal.returns-in-Cells
returns-in-Cells c =
    let items = c.args.self.now.objects.items in
    let arm = own_arm (plainly items) c.args.vector c.holder-holder.result (as_plain c.index_mut.result.now) c.in-Cells.cells c.requires.vector
    c.holder-holder.ensures (read_plain items c.holder-holder.result c.index_mut.result.now c.index_mut.ensures.value) (ap as_plain c.in-Cells.is)
    in
    set_plainly (λ (kept : List PlainObject). TakesBack (as_library (plainly items)) (as_library kept) c.args.vector c.args.loan) items
    c.holder-holder.result (Cells c.give_back.new.self)
    (own_back (plainly items) c.args.vector c.holder-holder.result c.args.loan c.in-Cells.cells c.give_back.new.self arm.1 arm.0
    (own_was (plainly items) c.args.vector c.args.loan c.in-Cells.cells true arm.0 (lent_given (plainly items) c.args.vector c.args.loan
    c.requires.lent)) c.give_back.ensures)

pub returns-in-Map : goal.returns-in-Map
returns-in-Map c =
    let items = c.args.self.now.objects.items in
    let arm = link_arm (plainly items) c.args.vector c.holder-holder.result (as_plain c.index_mut.result.now) (seen c.in-Map.link) c.requires.vector
    c.holder-holder.ensures (read_plain items c.holder-holder.result c.index_mut.result.now c.index_mut.ensures.value) (ap as_plain c.in-Map.is)
    in
    set_plainly (λ (kept : List PlainObject). TakesBack (as_library (plainly items)) (as_library kept) c.args.vector c.args.loan) items
    c.holder-holder.result (Map c.give_back-in-Map.new.self)
    (link_back (plainly items) c.args.vector c.holder-holder.result c.args.loan (seen c.in-Map.link) (seen c.give_back-in-Map.new.self) arm.1 arm.0
    (link_was (plainly items) c.args.vector c.args.loan (seen c.in-Map.link) true arm.0
    (lent_given (plainly items) c.args.vector c.args.loan c.requires.lent)) c.give_back-in-Map.ensures.lent)
