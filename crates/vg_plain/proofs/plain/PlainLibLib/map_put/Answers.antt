use Rattle.std.proofs.Common.{◌≡◌, ap, sym, subst, arith, refl, Some, true}
use Rattle.std.specs.Prelude.{is_none}
use Rattle.std.specs.Option.{option_map}
use Rattle.vg_abs.specs.Library.{Meets}
use Rattle.vg_abs.specs.Rows.{MapPut, HasRoom}
use Rattle.vg_abs.specs.Answers.{index_of}
use Rattle.vg_abs.specs.Tables.{Link}
use Rattle.vg_abs.specs.Effects.{with_link, with_key}
use Rattle.vg_plain.specs.PlainStates.{state_of}
use Rattle.vg_plain.proofs.StateLaws.{stands, map_within, link_is, no_map, does, as_library, is_absent}
use Rattle.vg_plain.proofs.plain.PlainLibLib.map_put.Goals as goal

pub put-requires-clause-absent : goal.put-requires-clause-absent
put-requires-clause-absent c =
    let here = stands _ _ _ _ (map_within c.args.self.now.objects.items c.args.map c.requires.map) c.index_mut.ensures.value c.in-Map.is in
    let needs : Meets (as_library c.args.self.now.objects.items) (MapPut c.args.map c.args.key.now c.args.index) = c.requires.needs in
    let absent = needs refl 2 (HasRoom 0) (omega arith) in
    is_absent _ (subst (λ (l : Link). option_map (λ answer. is_none answer) (index_of true l c.args.key.now) ≡ Some true)
    (link_is c.args.self.now.objects.items c.args.map _ here) absent)

pub unreachable-requires : goal.unreachable-requires
unreachable-requires c = no_map c.args.self.now.objects.items c.args.map c.index_mut.result.now c.requires.map c.index_mut.ensures.value c.in_default.not-Map

pub returns : goal.returns
returns c =
    let here = stands _ _ _ _ (map_within c.args.self.now.objects.items c.args.map c.requires.map) c.index_mut.ensures.value c.in-Map.is in
    does _ _ _ _ _ _ here c.put.ensures
    (sym (ap (λ (l : Link). with_link (state_of c.args.self.now.objects.items) c.args.map (with_key l c.args.key.now c.args.index))
    (link_is c.args.self.now.objects.items c.args.map _ here)))
