-- What a statement comes to in a full state.
use Rattle.std.proofs.Common.{◌≡◌, ℕ, List, [], Option, Some, None, Bool, true, refl, sym, ◌∙◌, ap}
use Rattle.std.specs.Prelude.{is_some, unwrap_or}
use Rattle.std.specs.FinMap.{get}
use Rattle.vg_stree.specs.Specification.{Specification}
use Rattle.vg_abs.specs.State.{State, link_of_map}
use Rattle.vg_abs.specs.Answers.{time_of}
use Rattle.vg_abs.specs.Effects.{with_link, without_key, without_index}
use Rattle.vg_smean.specs.Step.{Place, Outcome, Goes, told, remove, valued, scene_at}
use Rattle.vg_smean.specs.Values.{value_of}
use Rattle.vg_smean.specs.Places.{without_entry}

-- an allocated index is removed
pub removes : (spec : Specification) (numbers : List ℕ) (port now : ℕ) (place : Place) (map index time : ℕ) → place.state.full ≡ true
    → is_some (get (link_of_map place.state map).cells index) ≡ true →
    remove spec numbers port now place map index (Some time)
    ≡ Goes (record place { state = with_link place.state map (without_entry (link_of_map place.state map) index) })
removes spec numbers port now place map index time full some = go (get (link_of_map place.state map).cells index) refl some where
  left : Bool → List ℕ → Outcome
  left b key = Goes (record place { state = with_link place.state map (without_index b (without_key b (link_of_map place.state map) key) index) })

  go : (found : Option (List ℕ)) → get (link_of_map place.state map).cells index ≡ found → is_some found ≡ true →
      told (get (link_of_map place.state map).cells index) (left place.state.full)
      ≡ left true (unwrap_or (get (link_of_map place.state map).cells index) [])
  go None is some = absurd (cc)
  go (Some key) is some =
      ap (λ found. told found (left place.state.full)) is ∙ ap (λ b. left b key) full
      ∙ sym (ap (λ (found : Option (List ℕ)). left true (unwrap_or found [])) is)

pub remove_comes : (spec : Specification) (numbers : List ℕ) (port now : ℕ) (place : Place) (map expression index time : ℕ) (after : State) →
    value_of spec (scene_at spec numbers port now place) expression ≡ Some index
    → time_of place.state.full (link_of_map place.state map) index ≡ Some (Some time) → place.state.full ≡ true
    → is_some (get (link_of_map place.state map).cells index) ≡ true
    → after ≡ with_link place.state map (without_entry (link_of_map place.state map) index) →
    valued spec numbers port now place expression
    (λ i. told (time_of place.state.full (link_of_map place.state map) i) (remove spec numbers port now place map i)) ≡ Goes (record place { state = after })
remove_comes spec numbers port now place map expression index time after value_is time_is full some is =
    ap (λ v. told v (λ i. told (time_of place.state.full (link_of_map place.state map) i) (remove spec numbers port now place map i))) value_is
    ∙ ap (λ t. told t (remove spec numbers port now place map index)) time_is ∙ removes spec numbers port now place map index time full some
    ∙ ap (λ s. Goes (record place { state = s })) (sym is)
