use Rattle.std.proofs.Common.{◌≡◌, ◌∙◌, List, Some, refl, sym, ap, subst, arith, true}
use Rattle.std.specs.Prelude.{is_none, nat_lt}
use Rattle.std.specs.Option.{option_map}
use Rattle.vg_abs.specs.Tables.{Link}
use Rattle.vg_abs.specs.Answers.{index_of}
use Rattle.vg_abs.specs.Rows as rows
use Rattle.vg_abs.specs.Rows.{HasRoom}
use Rattle.vg_abs.specs.Effects.{with_link, with_key}
use Rattle.vg_abs.specs.Library.{Meets, Does}
use Rattle.vg_plain.specs.declared.object.PlainObject.{PlainObject}
use Rattle.vg_plain.specs.PlainStates.{state_of}
use Rattle.vg_plain.proofs.StateLaws.{as_library, link_is, does, is_absent}
use Rattle.vg_store.specs.declared.object.RealObject.TheVariants.{Map}
use Rattle.vg_store.specs.RealLinks.{seen}
use Rattle.vg_store.specs.RealStates.{plainly}
use Rattle.vg_store.proofs.RealLaws.{set_plainly, real_within, real_stands, stands_plain, real_no_map, met_less}
use Rattle.vg_store.proofs.real.RealLibLib.map_put.Goals as goal

pub put-requires-clause-room : goal.put-requires-clause-room
put-requires-clause-room c =
    let items = c.args.self.now.objects.items in
    let inside = real_within items (c.args.map) c.requires.map in
    let here = real_stands items (c.args.map) c.index_mut.result.now (Map c.in-Map.link) inside c.index_mut.ensures.value c.in-Map.is in
    let plainly_here = stands_plain items (c.args.map) (Map c.in-Map.link) here in
    let needs : Meets (as_library (plainly items)) (rows.MapPut c.args.map c.args.key.now c.args.index) = c.requires.needs in
    met_less _ _ (subst (λ (l : Link). Some (nat_lt l.size l.capacity) ≡ Some true) (link_is (plainly items) c.args.map (seen c.in-Map.link)
    plainly_here) (needs refl 0 (HasRoom 0) (omega arith)))

pub put-requires-clause-long : goal.put-requires-clause-long
put-requires-clause-long c =
    let items = c.args.self.now.objects.items in
    let inside = real_within items (c.args.map) c.requires.map in
    let here = real_stands items (c.args.map) c.index_mut.result.now (Map c.in-Map.link) inside c.index_mut.ensures.value c.in-Map.is in
    let plainly_here = stands_plain items (c.args.map) (Map c.in-Map.link) here in
    c.requires.key ∙ ap (λ (l : Link). l.key_length) (link_is (plainly items) c.args.map (seen c.in-Map.link) plainly_here)

pub put-requires-clause-absent : goal.put-requires-clause-absent
put-requires-clause-absent c =
    let items = c.args.self.now.objects.items in
    let inside = real_within items (c.args.map) c.requires.map in
    let here = real_stands items (c.args.map) c.index_mut.result.now (Map c.in-Map.link) inside c.index_mut.ensures.value c.in-Map.is in
    let plainly_here = stands_plain items (c.args.map) (Map c.in-Map.link) here in
    let needs : Meets (as_library (plainly items)) (rows.MapPut c.args.map c.args.key.now c.args.index) = c.requires.needs in
    is_absent _ (subst (λ (l : Link). option_map (λ answer. is_none answer) (index_of true l c.args.key.now) ≡ Some true)
    (link_is (plainly items) c.args.map (seen c.in-Map.link) plainly_here) (needs refl 2 (HasRoom 0) (omega arith)))

pub unreachable-requires : goal.unreachable-requires
unreachable-requires c = real_no_map c.args.self.now.objects.items (c.args.map) c.index_mut.result.now c.requires.map c.index_mut.ensures.value
    c.in_default.not-Map

pub returns : goal.returns
returns c =
    let items = c.args.self.now.objects.items in
    let inside = real_within items (c.args.map) c.requires.map in
    let here = real_stands items (c.args.map) c.index_mut.result.now (Map c.in-Map.link) inside c.index_mut.ensures.value c.in-Map.is in
    let plainly_here = stands_plain items (c.args.map) (Map c.in-Map.link) here in
    set_plainly (λ (kept : List PlainObject). Does (as_library (plainly items)) (as_library kept)
    (rows.MapPut c.args.map c.args.key.now c.args.index)) items (c.args.map) (Map c.put.new.self)
    (does (plainly items) (c.args.map) (seen c.in-Map.link) (seen c.put.new.self) _ (rows.MapPut c.args.map c.args.key.now c.args.index) plainly_here
    c.put.ensures.link
    (sym (ap (λ (l : Link). with_link (state_of (plainly items)) (c.args.map) (with_key l c.args.key.now c.args.index))
    (link_is (plainly items) (c.args.map) (seen c.in-Map.link) plainly_here))))
