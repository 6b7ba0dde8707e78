use Rattle.std.proofs.Common.{◌≡◌, ◌∙◌, ap, sym, subst, refl, slice_get, Some, None}
use Rattle.std.specs.Option.{option_map}
use Rattle.vg_abs.specs.Tables.{Link, CellTable}
use Rattle.vg_plain.specs.LinkStates.{CellsAgree}
use Rattle.vg_abs.specs.State.{link_of_map, no_link}
use Rattle.vg_plain.specs.PlainStates.{plain_link, table_in}
use Rattle.vg_plain.proofs.AgreementLaws.{both_links, no_table, no_links, no_cells}
use Rattle.vg_store.specs.RealLinks.{seen}
use Rattle.vg_store.specs.RealStates.{plainly}
use Rattle.vg_store.proofs.agreement.keys_agree.Goals as goal

pub returns-in_default : goal.returns-in_default
returns-in_default c =
    let none : plain_link (slice_get (plainly c.args.objects.now) c.args.map) ≡ None = sym c.link_at.ensures
    ∙ ap (λ r. option_map (λ link. seen link.now) r) c.in_default.is in
    let both = no_links (plainly c.args.objects.now) c.args.state.now c.args.map c.requires none in (
      λ _. subst (λ (l : Link). CellsAgree l.cells (link_of_map c.args.state.now c.args.map).cells) (sym both.0)
          (subst (λ (l : Link). CellsAgree no_link.cells l.cells) (sym both.1) no_cells),
      λ _. refl,
    )

pub returns-in_default-table_at : goal.returns-in_default-table_at
returns-in_default-table_at c =
    let is : plain_link (slice_get (plainly c.args.objects.now) c.args.map) ≡ Some (seen c.in-Some.link.now) = sym c.link_at.ensures
    ∙ ap (λ r. option_map (λ link. seen link.now) r) c.in-Some.is in
    let listed = c.deref.ensures.value ∙ ap (λ s. s.objects) c.state.view_is in
    let none : table_in (slice_get c.args.state.now.objects c.args.map) ≡ None =
    sym (ap (λ os. table_in (slice_get os c.args.map)) listed) ∙ sym c.table_at.ensures ∙ ap (λ r. option_map (λ table. table.now) r)
    c.in_default-table_at.is in
    absurd (no_table (plainly c.args.objects.now) c.args.state.now c.args.map (seen c.in-Some.link.now) c.requires is none)

pub returns : goal.returns
returns c =
    let is : plain_link (slice_get (plainly c.args.objects.now) c.args.map) ≡ Some (seen c.in-Some.link.now) = sym c.link_at.ensures
    ∙ ap (λ r. option_map (λ link. seen link.now) r) c.in-Some.is in
    let listed = c.deref.ensures.value ∙ ap (λ s. s.objects) c.state.view_is in
    let has : table_in (slice_get c.args.state.now.objects c.args.map) ≡ Some c.in-Some-table_at.other.now =
    sym (ap (λ os. table_in (slice_get os c.args.map)) listed) ∙ sym c.table_at.ensures ∙ ap (λ r. option_map (λ table. table.now) r) c.in-Some-table_at.is in
    let both = both_links (plainly c.args.objects.now) c.args.state.now c.args.map (seen c.in-Some.link.now) c.in-Some-table_at.other.now c.requires is has in
    let cells = ap (λ l. l.cells) c.other.view_is in (
      λ yes. subst (λ (l : Link). CellsAgree l.cells (link_of_map c.args.state.now c.args.map).cells) (sym both.one)
          (subst (λ (l : Link). CellsAgree (seen c.in-Some.link.now).link.cells l.cells) (sym both.two)
          (subst (λ (t : CellTable). CellsAgree (seen c.in-Some.link.now).link.cells t) cells (c.cells_agree.ensures.0 yes))),
      λ agree. c.cells_agree.ensures.1
          (subst (λ (t : CellTable). CellsAgree (seen c.in-Some.link.now).link.cells t) (sym cells)
          (subst (λ (l : Link). CellsAgree (seen c.in-Some.link.now).link.cells l.cells) both.two
          (subst (λ (l : Link). CellsAgree l.cells (link_of_map c.args.state.now c.args.map).cells) both.one agree))),
    )
