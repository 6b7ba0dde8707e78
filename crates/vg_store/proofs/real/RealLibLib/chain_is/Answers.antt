use Rattle.std.proofs.Common.{ℕ, ◌≡◌, ◌-◌, ◌∙◌, Option, Some, refl, ap, subst, arith, true}
use Rattle.std.specs.Prelude.{is_some, nat_lt}
use Rattle.vg_abs.specs.Tables.{Link}
use Rattle.vg_abs.specs.Rows as rows
use Rattle.vg_abs.specs.Rows.{HasRoom}
use Rattle.vg_abs.specs.Library.{Meets}
use Rattle.vg_plain.proofs.StateLaws.{as_library, link_is}
use Rattle.vg_store.specs.declared.object.RealObject.TheVariants.{Map}
use Rattle.vg_store.specs.RealLinks.{seen}
use Rattle.vg_store.specs.RealStates.{plainly}
use Rattle.vg_store.proofs.RealLaws.{real_within, real_stands, stands_plain, real_no_map, met_less, tells}
use Rattle.vg_store.proofs.real.RealLibLib.chain_is.Goals as goal

pub time-requires : goal.time-requires
time-requires c =
    let items = c.args.self.now.objects.items in
    let inside = real_within items (c.args.chain - 1) c.requires.chain.map in
    let here = real_stands items (c.args.chain - 1) c.index.result.now (Map c.in-Map.link) inside c.index.ensures c.in-Map.is in
    let plainly_here = stands_plain items (c.args.chain - 1) (Map c.in-Map.link) here in
    let needs : Meets (as_library (plainly items)) (rows.ChainIsAllocated c.args.chain c.args.index) = c.requires.needs in
    met_less c.args.index c.in-Map.link.ages.range (subst (λ (l : Link). Some (nat_lt c.args.index l.capacity) ≡ Some true)
    (link_is (plainly items) (c.args.chain - 1) (seen c.in-Map.link) plainly_here) (needs refl 0 (HasRoom 0) (omega arith)))

pub unreachable-requires : goal.unreachable-requires
unreachable-requires c = real_no_map c.args.self.now.objects.items (c.args.chain - 1) c.index.result.now c.requires.chain.map c.index.ensures
    c.in_default.not-Map

pub returns : goal.returns
returns c =
    let items = c.args.self.now.objects.items in
    let inside = real_within items (c.args.chain - 1) c.requires.chain.map in
    let here = real_stands items (c.args.chain - 1) c.index.result.now (Map c.in-Map.link) inside c.index.ensures c.in-Map.is in
    let plainly_here = stands_plain items (c.args.chain - 1) (Map c.in-Map.link) here in
    let needs : Meets (as_library (plainly items)) (rows.ChainIsAllocated c.args.chain c.args.index) = c.requires.needs in
    let less = met_less c.args.index c.in-Map.link.ages.range (subst (λ (l : Link). Some (nat_lt c.args.index l.capacity) ≡ Some true)
    (link_is (plainly items) (c.args.chain - 1) (seen c.in-Map.link) plainly_here) (needs refl 0 (HasRoom 0) (omega arith))) in
    tells (plainly items) c.args.chain (seen c.in-Map.link) c.args.index c.is_some.result plainly_here less
    (c.is_some.ensures ∙ ap (λ (o : Option ℕ). is_some o) c.time.ensures)
