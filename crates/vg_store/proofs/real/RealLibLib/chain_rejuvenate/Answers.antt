use Rattle.std.proofs.Common.{◌≡◌, ◌-◌, ◌∙◌, List, Some, refl, sym, ap, subst, arith, true}
use Rattle.std.specs.Prelude.{is_some, nat_lt, nat_le}
use Rattle.std.specs.Option.{option_map}
use Rattle.vg_dchain.specs.ChainState.{ChainState, after_rejuvenation}
use Rattle.vg_abs.specs.Tables.{Link}
use Rattle.vg_abs.specs.Answers.{time_of}
use Rattle.vg_abs.specs.Rows as rows
use Rattle.vg_abs.specs.Rows.{HasRoom}
use Rattle.vg_abs.specs.Effects.{with_link, with_time}
use Rattle.vg_abs.specs.Library.{Meets, Does}
use Rattle.vg_plain.specs.declared.object.PlainObject.{PlainObject}
use Rattle.vg_plain.specs.PlainStates.{state_of}
use Rattle.vg_plain.proofs.StateLaws.{as_library, link_is, does}
use Rattle.vg_store.specs.declared.object.RealObject.TheVariants.{Map}
use Rattle.vg_store.specs.RealLinks.{seen}
use Rattle.vg_store.specs.RealStates.{plainly}
use Rattle.vg_store.proofs.RealLaws.{set_plainly, real_within, real_stands, stands_plain, real_no_map, ages_here, ages_now, met_less, met_least}
use Rattle.vg_store.proofs.RealLaws.{allocated_there}
use Rattle.vg_store.proofs.real.RealLibLib.chain_rejuvenate.Goals as goal

pub rejuvenate-requires-clause-allocated : goal.rejuvenate-requires-clause-allocated
rejuvenate-requires-clause-allocated c =
    let items = c.args.self.now.objects.items in
    let inside = real_within items (c.args.chain - 1) c.requires.chain.map in
    let here = real_stands items (c.args.chain - 1) c.index_mut.result.now (Map c.in-Map.link) inside c.index_mut.ensures.value c.in-Map.is in
    let plainly_here = stands_plain items (c.args.chain - 1) (Map c.in-Map.link) here in
    let needs : Meets (as_library (plainly items)) (rows.ChainRejuvenate c.args.chain c.args.index c.args.now) = c.requires.needs in
    let seen_is = link_is (plainly items) (c.args.chain - 1) (seen c.in-Map.link) plainly_here in
    let less = met_less c.args.index c.in-Map.link.ages.range (subst (λ (l : Link). Some (nat_lt c.args.index l.capacity) ≡ Some true) seen_is
    (needs refl 0 (HasRoom 0) (omega arith))) in
    allocated_there (seen c.in-Map.link).link c.args.index less
    (subst (λ (l : Link). option_map (λ answer. is_some answer) (time_of true l c.args.index) ≡ Some true) seen_is
    (needs refl 1 (HasRoom 0) (omega arith)))

pub rejuvenate-requires-clause-time : goal.rejuvenate-requires-clause-time
rejuvenate-requires-clause-time c =
    let items = c.args.self.now.objects.items in
    let inside = real_within items (c.args.chain - 1) c.requires.chain.map in
    let here = real_stands items (c.args.chain - 1) c.index_mut.result.now (Map c.in-Map.link) inside c.index_mut.ensures.value c.in-Map.is in
    let plainly_here = stands_plain items (c.args.chain - 1) (Map c.in-Map.link) here in
    let needs : Meets (as_library (plainly items)) (rows.ChainRejuvenate c.args.chain c.args.index c.args.now) = c.requires.needs in
    let seen_is = link_is (plainly items) (c.args.chain - 1) (seen c.in-Map.link) plainly_here in
    let less = met_less c.args.index c.in-Map.link.ages.range (subst (λ (l : Link). Some (nat_lt c.args.index l.capacity) ≡ Some true) seen_is
    (needs refl 0 (HasRoom 0) (omega arith))) in
    met_least _ _ (subst (λ (l : Link). Some (nat_le l.highest c.args.now) ≡ Some true) seen_is (needs refl 2 (HasRoom 0) (omega arith)))

pub unreachable-requires : goal.unreachable-requires
unreachable-requires c = real_no_map c.args.self.now.objects.items (c.args.chain - 1) c.index_mut.result.now c.requires.chain.map
    c.index_mut.ensures.value c.in_default.not-Map

pub returns-clause-row : goal.returns-clause-row
returns-clause-row c =
    let items = c.args.self.now.objects.items in
    let inside = real_within items (c.args.chain - 1) c.requires.chain.map in
    let here = real_stands items (c.args.chain - 1) c.index_mut.result.now (Map c.in-Map.link) inside c.index_mut.ensures.value c.in-Map.is in
    let plainly_here = stands_plain items (c.args.chain - 1) (Map c.in-Map.link) here in
    set_plainly (λ (kept : List PlainObject). Does (as_library (plainly items)) (as_library kept)
    (rows.ChainRejuvenate c.args.chain c.args.index c.args.now)) items (c.args.chain - 1) (Map c.rejuvenate.new.self)
    (does (plainly items) (c.args.chain - 1) (seen c.in-Map.link) (seen c.rejuvenate.new.self) _
    (rows.ChainRejuvenate c.args.chain c.args.index c.args.now) plainly_here c.rejuvenate.ensures.link
    (sym (ap (λ (l : Link). with_link (state_of (plainly items)) (c.args.chain - 1) (with_time l c.args.index c.args.now))
    (link_is (plainly items) (c.args.chain - 1) (seen c.in-Map.link) plainly_here))))

pub returns-clause-youngest : goal.returns-clause-youngest
returns-clause-youngest c =
    let items = c.args.self.now.objects.items in
    let inside = real_within items (c.args.chain - 1) c.requires.chain.map in
    let here = real_stands items (c.args.chain - 1) c.index_mut.result.now (Map c.in-Map.link) inside c.index_mut.ensures.value c.in-Map.is in
    let plainly_here = stands_plain items (c.args.chain - 1) (Map c.in-Map.link) here in
    ages_now items (c.args.chain - 1) c.rejuvenate.new.self inside ∙ c.rejuvenate.ensures.ages
    ∙ ap (λ (a : ChainState). after_rejuvenation a c.args.index c.args.now) (sym (ages_here items (c.args.chain - 1) c.in-Map.link here))
