use Rattle.std.proofs.Common.{◌<◌, ◌∙◌, ap, sym, subst, refl, List, length, get_or, Some, arith}
use Rattle.std.proofs.lemmas.Option.{slice_get-get_or}
use Rattle.std.proofs.lemmas.List.{length-map}
use Rattle.vg_abs.specs.declared.object.Object.{Object}
use Rattle.vg_plain.specs.PlainStates.{object_of}
use Rattle.vg_plain.proofs.Places.{cells_agree_as}
use Rattle.vg_plain.proofs.AgreementLaws.{keys_same, cells_same, map_kind, cells_kind, at_object}
use Rattle.vg_plain.specs.PlainTables.{cell_table}
use Rattle.vg_plain.specs.LinkStates.{CellsAgree}
use Rattle.vg_store.specs.RealLinks.{seen}
use Rattle.vg_store.specs.RealStates.{as_plain, plainly}
use Rattle.vg_store.proofs.RealLaws.{real_stands, stands_plain, maps_same, chains_same}
use Rattle.vg_store.proofs.agreement.agree_at.Goals as goal

pub returns-in-Map-Map : goal.returns-in-Map-Map
returns-in-Map-Map c =
    let here = stands_plain c.args.objects.now c.args.i _ (real_stands c.args.objects.now c.args.i c.index-objects-i.result _ c.requires.inside
    c.index-objects-i.is c.in-Map-Map.is-0) in
    let listed = ap (λ s. s.objects) c.state.view_is in
    let inside : c.args.i < length c.args.state.now.objects = omega (
      arith,
      c.requires.inside,
      c.requires.shape.as_many,
      length-map (plainly c.args.objects.now) object_of,
      length-map c.args.objects.now as_plain,
    ) in
    let read = c.index.ensures ∙ ap (λ (os : List Object). get_or os c.args.i c.index.result.now) listed in
    let there = slice_get-get_or c.args.state.now.objects c.args.i c.index.result.now inside ∙ ap Some (sym read ∙ c.in-Map-Map.is-1) in
    maps_same (plainly c.args.objects.now) c.args.state.now c.args.i (seen c.in-Map-Map.link) c.in-Map-Map.other c.state.inside.full
    c.map_agrees.result here there (ap (λ s. s.full) c.state.view_is) c.map_agrees.ensures

pub returns-in-Chain-default : goal.returns-in-Chain-default
returns-in-Chain-default c =
    let here = stands_plain c.args.objects.now c.args.i _ (real_stands c.args.objects.now c.args.i c.index-objects-i.result _ c.requires.inside
    c.index-objects-i.is c.in-Chain-default.is-0) in
    chains_same (plainly c.args.objects.now) c.args.state.now c.args.i c.saturating_sub.result c.chains_agree.result here c.saturating_sub.ensures
    c.chains_agree.ensures

pub returns-in-Keys-default : goal.returns-in-Keys-default
returns-in-Keys-default c =
    let here = stands_plain c.args.objects.now c.args.i _ (real_stands c.args.objects.now c.args.i c.index-objects-i.result _ c.requires.inside
    c.index-objects-i.is c.in-Keys-default.is-0) in
    keys_same (plainly c.args.objects.now) c.args.state.now c.args.i _ c.keys_agree.result c.requires.shape here
    c.saturating_sub-in-Keys-default.ensures c.keys_agree.ensures

pub returns-in-Cells-Cells : goal.returns-in-Cells-Cells
returns-in-Cells-Cells c =
    let here = stands_plain c.args.objects.now c.args.i _ (real_stands c.args.objects.now c.args.i c.index-objects-i.result _ c.requires.inside
    c.index-objects-i.is c.in-Cells-Cells.is-0) in
    let listed = ap (λ s. s.objects) c.state.view_is in
    let inside : c.args.i < length c.args.state.now.objects = omega (
      arith,
      c.requires.inside,
      c.requires.shape.as_many,
      length-map (plainly c.args.objects.now) object_of,
      length-map c.args.objects.now as_plain,
    ) in
    let read = c.index.ensures ∙ ap (λ (os : List Object). get_or os c.args.i c.index.result.now) listed in
    let there = slice_get-get_or c.args.state.now.objects c.args.i c.index.result.now inside ∙ ap Some (sym read ∙ c.in-Cells-Cells.is-1) in
    let cells = ap (λ v. v.cells) c.other.view_is in
    cells_same (plainly c.args.objects.now) c.args.state.now c.args.i c.in-Cells-Cells.vector c.in-Cells-Cells.other c.agrees.result here there (
      λ yes. subst (λ t. CellsAgree (cell_table 0 c.in-Cells-Cells.vector.cells) t) cells (cells_agree_as.to c.in-Cells-Cells.vector.cells _
          (c.agrees.ensures.0 yes)),
      λ agree. c.agrees.ensures.1 (cells_agree_as.from c.in-Cells-Cells.vector.cells _ (subst
          (λ t. CellsAgree (cell_table 0 c.in-Cells-Cells.vector.cells) t) (sym cells) agree)),
    )

pub returns-in_default : goal.returns-in_default
returns-in_default c =
    let here = stands_plain c.args.objects.now c.args.i _ (real_stands c.args.objects.now c.args.i c.index-objects-i.result _ c.requires.inside
    c.index-objects-i.is c.in_default.is-0) in
    let read = c.index.ensures ∙ ap (λ (os : List Object). get_or os c.args.i c.index.result.now) (ap (λ s. s.objects) c.state.view_is) in
    absurd (map_kind (plainly c.args.objects.now) c.args.state.now c.args.i _ c.index.result.now c.requires.shape here read c.in_default.not-Map-1)

pub returns-in_default-2 : goal.returns-in_default-2
returns-in_default-2 c =
    let here = stands_plain c.args.objects.now c.args.i _ (real_stands c.args.objects.now c.args.i c.index-objects-i.result _ c.requires.inside
    c.index-objects-i.is c.in_default.is-0) in
    let read = c.index.ensures ∙ ap (λ (os : List Object). get_or os c.args.i c.index.result.now) (ap (λ s. s.objects) c.state.view_is) in
    absurd (cells_kind (plainly c.args.objects.now) c.args.state.now c.args.i _ c.index.result.now c.requires.shape here read c.in_default.not-Cells-1)

pub returns-in_default-3 : goal.returns-in_default-3
returns-in_default-3 c =
    let here = stands_plain c.args.objects.now c.args.i _ (real_stands c.args.objects.now c.args.i c.index-objects-i.result _ c.requires.inside
    c.index-objects-i.is c.in_default.is-0) in
    at_object (plainly c.args.objects.now) c.args.state.now c.args.i _ _ here (λ _. tt, λ _. refl)
