use Rattle.std.proofs.Common.{◌≡◌, ◌∙◌, ap, sym, subst, refl, slice_get, Some, None, true, Bool}
use Rattle.std.specs.Option.{option_map}
use Rattle.vg_abs.specs.Tables.{Link}
use Rattle.vg_abs.specs.Agreement.{ChainsAgree}
use Rattle.vg_abs.specs.State.{link_of_map, no_link}
use Rattle.vg_plain.specs.PlainStates.{plain_link, table_in}
use Rattle.vg_plain.proofs.AgreementLaws.{both_links, no_table, no_links, no_chains}
use Rattle.vg_store.specs.RealLinks.{seen}
use Rattle.vg_store.specs.RealStates.{plainly}
use Rattle.vg_store.proofs.agreement.chains_agree.Goals as goal

pub returns-in_default : goal.returns-in_default
returns-in_default c =
    let none : plain_link (slice_get (plainly c.args.objects.now) c.args.map) ≡ None = sym c.link_at.ensures
    ∙ ap (λ r. option_map (λ link. seen link.now) r) c.in_default.is in
    let both = no_links (plainly c.args.objects.now) c.args.state.now c.args.map c.requires none in (
      λ _. subst (λ (l : Link). ChainsAgree true c.args.state.now.full l (link_of_map c.args.state.now c.args.map)) (sym both.0)
          (subst (λ (l : Link). ChainsAgree true c.args.state.now.full no_link l) (sym both.1) (no_chains c.args.state.now.full)),
      λ _. refl,
    )

pub returns-in_default-table_at : goal.returns-in_default-table_at
returns-in_default-table_at c =
    let is : plain_link (slice_get (plainly c.args.objects.now) c.args.map) ≡ Some (seen c.in-Some.link.now) = sym c.link_at.ensures
    ∙ ap (λ r. option_map (λ link. seen link.now) r) c.in-Some.is in
    let listed = c.deref.ensures.value ∙ ap (λ s. s.objects) c.state.view_is in
    let none : table_in (slice_get c.args.state.now.objects c.args.map) ≡ None =
    sym (ap (λ os. table_in (slice_get os c.args.map)) listed) ∙ sym c.table_at.ensures ∙ ap (λ r. option_map (λ table. table.now) r)
    c.in_default-table_at.is in
    absurd (no_table (plainly c.args.objects.now) c.args.state.now c.args.map (seen c.in-Some.link.now) c.requires is none)

pub chain_agrees-requires : goal.chain_agrees-requires
chain_agrees-requires c =
    let is : plain_link (slice_get (plainly c.args.objects.now) c.args.map) ≡ Some (seen c.in-Some.link.now) = sym c.link_at.ensures
    ∙ ap (λ r. option_map (λ link. seen link.now) r) c.in-Some.is in
    let listed = c.deref.ensures.value ∙ ap (λ s. s.objects) c.state.view_is in
    let has : table_in (slice_get c.args.state.now.objects c.args.map) ≡ Some c.in-Some-table_at.other.now =
    sym (ap (λ os. table_in (slice_get os c.args.map)) listed) ∙ sym c.table_at.ensures ∙ ap (λ r. option_map (λ table. table.now) r) c.in-Some-table_at.is in
    (both_links (plainly c.args.objects.now) c.args.state.now c.args.map (seen c.in-Some.link.now) c.in-Some-table_at.other.now c.requires is has).capacity

pub returns : goal.returns
returns c =
    let is : plain_link (slice_get (plainly c.args.objects.now) c.args.map) ≡ Some (seen c.in-Some.link.now) = sym c.link_at.ensures
    ∙ ap (λ r. option_map (λ link. seen link.now) r) c.in-Some.is in
    let listed = c.deref.ensures.value ∙ ap (λ s. s.objects) c.state.view_is in
    let has : table_in (slice_get c.args.state.now.objects c.args.map) ≡ Some c.in-Some-table_at.other.now =
    sym (ap (λ os. table_in (slice_get os c.args.map)) listed) ∙ sym c.table_at.ensures ∙ ap (λ r. option_map (λ table. table.now) r) c.in-Some-table_at.is in
    let both = both_links (plainly c.args.objects.now) c.args.state.now c.args.map (seen c.in-Some.link.now) c.in-Some-table_at.other.now c.requires is has in
    let full = ap (λ s. s.full) c.state.view_is in (
      λ yes. subst (λ (l : Link). ChainsAgree true c.args.state.now.full l (link_of_map c.args.state.now c.args.map)) (sym both.one)
          (subst (λ (l : Link). ChainsAgree true c.args.state.now.full (seen c.in-Some.link.now).link l) (sym both.two)
          (subst (λ (f : Bool). ChainsAgree true f (seen c.in-Some.link.now).link c.in-Some-table_at.other.now) full (c.chain_agrees.ensures.0 yes))),
      λ agree. c.chain_agrees.ensures.1
          (subst (λ (f : Bool). ChainsAgree true f (seen c.in-Some.link.now).link c.in-Some-table_at.other.now) (sym full)
          (subst (λ (l : Link). ChainsAgree true c.args.state.now.full (seen c.in-Some.link.now).link l) both.two
          (subst (λ (l : Link). ChainsAgree true c.args.state.now.full l (link_of_map c.args.state.now c.args.map)) both.one agree))),
    )
