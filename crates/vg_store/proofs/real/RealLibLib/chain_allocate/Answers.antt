use Rattle.std.proofs.Common.{◌≡◌, ◌-◌, List, set, Some, slice_get, refl, subst, arith, true}
use Rattle.std.specs.Prelude.{nat_le}
use Rattle.vg_abs.specs.Tables.{Link}
use Rattle.vg_abs.specs.Rows as rows
use Rattle.vg_abs.specs.Rows.{HasRoom}
use Rattle.vg_abs.specs.Library.{Meets, Allocates}
use Rattle.vg_plain.specs.declared.object.PlainObject.{PlainObject}
use Rattle.vg_plain.proofs.StateLaws.{as_library, link_is, allocates}
use Rattle.vg_store.specs.declared.object.RealObject.TheVariants.{Map}
use Rattle.vg_store.specs.RealLinks.{seen}
use Rattle.vg_store.specs.RealStates.{plainly, ages_in}
use Rattle.vg_store.proofs.RealLaws.{set_plainly, real_within, real_stands, stands_plain, real_no_map, ages_here, ages_now, met_least, seen_kept, first_in}
use Rattle.vg_store.proofs.real.RealLibLib.chain_allocate.Goals as goal

pub allocate-requires : goal.allocate-requires
allocate-requires c =
    let items = c.args.self.now.objects.items in
    let inside = real_within items (c.args.chain - 1) c.requires.chain.map in
    let here = real_stands items (c.args.chain - 1) c.index_mut.result.now (Map c.in-Map.link) inside c.index_mut.ensures.value c.in-Map.is in
    let plainly_here = stands_plain items (c.args.chain - 1) (Map c.in-Map.link) here in
    let needs : Meets (as_library (plainly items)) (rows.ChainAllocate c.args.chain c.args.now) = c.requires.needs in
    met_least _ _ (subst (λ (l : Link). Some (nat_le l.highest c.args.now) ≡ Some true) (link_is (plainly items) (c.args.chain - 1)
    (seen c.in-Map.link) plainly_here) (needs refl 0 (HasRoom 0) (omega arith)))

pub unreachable-requires : goal.unreachable-requires
unreachable-requires c = real_no_map c.args.self.now.objects.items (c.args.chain - 1) c.index_mut.result.now c.requires.chain.map
    c.index_mut.ensures.value c.in_default.not-Map

pub returns-clause-row : goal.returns-clause-row
returns-clause-row c =
    let items = c.args.self.now.objects.items in
    let inside = real_within items (c.args.chain - 1) c.requires.chain.map in
    let here = real_stands items (c.args.chain - 1) c.index_mut.result.now (Map c.in-Map.link) inside c.index_mut.ensures.value c.in-Map.is in
    let plainly_here = stands_plain items (c.args.chain - 1) (Map c.in-Map.link) here in
    set_plainly (λ (kept : List PlainObject). Allocates (as_library (plainly items)) (as_library kept) c.args.chain c.args.now c.allocate.result)
    items (c.args.chain - 1) (Map c.allocate.new.self)
    (allocates (plainly items) c.args.chain (seen c.in-Map.link) (seen c.allocate.new.self) c.args.now c.allocate.result plainly_here
    (seen_kept c.in-Map.link c.allocate.new.self c.allocate.result c.allocate.ensures.none)
    c.allocate.ensures.inside c.allocate.ensures.free c.allocate.ensures.handed)

pub returns-clause-first : goal.returns-clause-first
returns-clause-first c =
    let items = c.args.self.now.objects.items in
    let inside = real_within items (c.args.chain - 1) c.requires.chain.map in
    let here = real_stands items (c.args.chain - 1) c.index_mut.result.now (Map c.in-Map.link) inside c.index_mut.ensures.value c.in-Map.is in
    let plainly_here = stands_plain items (c.args.chain - 1) (Map c.in-Map.link) here in
    first_in (ages_in (slice_get items (c.args.chain - 1)))
    (ages_in (slice_get (set items (c.args.chain - 1) (Map c.allocate.new.self)) (c.args.chain - 1))) c.in-Map.link.ages c.allocate.new.self.ages
    c.allocate.result
    (ages_here items (c.args.chain - 1) c.in-Map.link here) (ages_now items (c.args.chain - 1) c.allocate.new.self inside) c.allocate.ensures.first
