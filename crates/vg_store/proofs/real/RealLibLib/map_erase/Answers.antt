use Rattle.std.proofs.Common.{◌≡◌, ◌∙◌, List, Some, refl, sym, ap, subst, arith, true}
use Rattle.std.specs.Prelude.{is_some}
use Rattle.std.specs.Option.{option_map}
use Rattle.vg_abs.specs.Tables.{Link}
use Rattle.vg_abs.specs.Answers.{index_of}
use Rattle.vg_abs.specs.Rows as rows
use Rattle.vg_abs.specs.Rows.{HasRoom}
use Rattle.vg_abs.specs.Effects.{with_link, without_key}
use Rattle.vg_abs.specs.Library.{Meets, Does}
use Rattle.vg_plain.specs.declared.object.PlainObject.{PlainObject}
use Rattle.vg_plain.specs.PlainStates.{state_of}
use Rattle.vg_plain.proofs.StateLaws.{as_library, link_is, does}
use Rattle.vg_store.specs.declared.object.RealObject.TheVariants.{Map}
use Rattle.vg_store.specs.RealLinks.{seen}
use Rattle.vg_store.specs.RealStates.{plainly}
use Rattle.vg_store.proofs.RealLaws.{set_plainly, real_within, real_stands, stands_plain, real_no_map, is_there}
use Rattle.vg_store.proofs.real.RealLibLib.map_erase.Goals as goal

pub erase-requires-clause-long : goal.erase-requires-clause-long
erase-requires-clause-long c =
    let items = c.args.self.now.objects.items in
    let inside = real_within items (c.args.map) c.requires.map in
    let here = real_stands items (c.args.map) c.index_mut.result.now (Map c.in-Map.link) inside c.index_mut.ensures.value c.in-Map.is in
    let plainly_here = stands_plain items (c.args.map) (Map c.in-Map.link) here in
    c.requires.key ∙ ap (λ (l : Link). l.key_length) (link_is (plainly items) c.args.map (seen c.in-Map.link) plainly_here)

pub erase-requires-clause-present : goal.erase-requires-clause-present
erase-requires-clause-present c =
    let items = c.args.self.now.objects.items in
    let inside = real_within items (c.args.map) c.requires.map in
    let here = real_stands items (c.args.map) c.index_mut.result.now (Map c.in-Map.link) inside c.index_mut.ensures.value c.in-Map.is in
    let plainly_here = stands_plain items (c.args.map) (Map c.in-Map.link) here in
    let needs : Meets (as_library (plainly items)) (rows.MapErase c.args.map c.args.key.now) = c.requires.needs in
    is_there _ (subst (λ (l : Link). option_map (λ answer. is_some answer) (index_of true l c.args.key.now) ≡ Some true)
    (link_is (plainly items) c.args.map (seen c.in-Map.link) plainly_here) (needs refl 0 (HasRoom 0) (omega arith)))

pub unreachable-requires : goal.unreachable-requires
unreachable-requires c = real_no_map c.args.self.now.objects.items (c.args.map) c.index_mut.result.now c.requires.map c.index_mut.ensures.value
    c.in_default.not-Map

pub returns : goal.returns
returns c =
    let items = c.args.self.now.objects.items in
    let inside = real_within items (c.args.map) c.requires.map in
    let here = real_stands items (c.args.map) c.index_mut.result.now (Map c.in-Map.link) inside c.index_mut.ensures.value c.in-Map.is in
    let plainly_here = stands_plain items (c.args.map) (Map c.in-Map.link) here in
    set_plainly (λ (kept : List PlainObject). Does (as_library (plainly items)) (as_library kept) (rows.MapErase c.args.map c.args.key.now)) items
    (c.args.map) (Map c.erase.new.self)
    (does (plainly items) (c.args.map) (seen c.in-Map.link) (seen c.erase.new.self) _ (rows.MapErase c.args.map c.args.key.now) plainly_here
    c.erase.ensures.link
    (sym (ap (λ (l : Link). with_link (state_of (plainly items)) (c.args.map) (without_key true l c.args.key.now))
    (link_is (plainly items) (c.args.map) (seen c.in-Map.link) plainly_here))))
