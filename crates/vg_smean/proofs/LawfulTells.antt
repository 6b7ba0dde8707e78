-- A lawful full state has all its cells, and so tells all that a step asks.
use Rattle.std.proofs.Common.{◌≡◌, ◌<◌, ℕ, zero, suc, List, [], ◌∷◌, length, Option, Some, None, true, refl, sym, ◌∙◌, ap, subst, arith, IsSome}
use Rattle.std.specs.Prelude.{slice_get}
use Rattle.std.specs.FinMap.{get}
use Rattle.vg_stree.specs.Specification.{Specification}
use Rattle.vg_abs.specs.declared.object.Object.{Object}
use Rattle.vg_abs.specs.declared.object.Object.TheVariants.{Map, Chain, Keys, Cells, Prefixes}
use Rattle.vg_abs.specs.State.{State, link_in}
use Rattle.vg_abs.specs.Lawful.{IsLawful, IsLawfulObject}
use Rattle.vg_smean.specs.Step.{Place, Untold}
use Rattle.std.specs.declared.result.Result.{Result}
use Rattle.std.specs.declared.result.Result.TheVariants.{Err}
use Rattle.vg_smean.specs.declared.running.Flow.{Flow}
use Rattle.vg_smean.specs.declared.stops.Stop.{Stop}
use Rattle.vg_smean.specs.declared.stops.Stop.TheVariants as stops
use Rattle.vg_smean.specs.Places.{outcome_of, Comes}
use Rattle.vg_smean.specs.Outcomes.{LawfulTellsAll}
use Rattle.vg_smean.proofs.NeverAsks.{Told, TellsAll}
use Rattle.vg_smean.proofs.StoreLaws.{within}
use Rattle.vg_smean.proofs.StepAsks.{Sound, sound_step, step_told}

as_told : {A : Type 0} (o : Option A) → IsSome o → Told o
as_told None some = absurd (cc)
as_told (Some a) some = tt

there : {A : Type 0} (xs : List A) (i : ℕ) → i < length xs → (x : A) × (slice_get xs i ≡ Some x)
there [] i less = absurd (omega arith)
there (x ∷ xs) zero less = (x, refl)
there (x ∷ xs) (suc i) less = there xs i (omega arith)

module _ (spec : Specification) (numbers : List ℕ) (at : ℕ) (s : State) (lawful : IsLawful spec numbers at s) (full : s.full ≡ true) where
  object_lawful : (number : ℕ) (object : Object) → slice_get s.objects number ≡ Some object
      → (kind : Rattle.vg_stree.specs.declared.shape.ObjectKind.ObjectKind) × IsLawfulObject at true kind object
  object_lawful number object is =
      let declared = there spec.shape.objects number (subst (λ n. number < n) lawful.shaped.as_many (within s.objects number object is)) in
      (declared.0.kind, subst (λ b. IsLawfulObject at b declared.0.kind object) full (lawful.each number declared.0 object declared.1 is))

  link_told : (map index : ℕ) (found : Option Object) → slice_get s.objects map ≡ found → index < (link_in found).capacity → Told
      (get (link_in found).cells index)
  link_told map index None is less = absurd (omega arith)
  link_told map index (Some Chain) is less = absurd (omega arith)
  link_told map index (Some Keys) is less = absurd (omega arith)
  link_told map index (Some (Cells cells)) is less = absurd (omega arith)
  link_told map index (Some (Prefixes prefixes)) is less = absurd (omega arith)
  link_told map index (Some (Map link)) is less = as_told (get link.cells index) ((object_lawful map (Map link) is).1.all_cells index less)

  pub tells_all : TellsAll s
  tells_all = record {
    full = full;
    links = λ map index less. link_told map index (slice_get s.objects map) refl less;
    vectors = λ vector index cells is less. as_told (get cells.cells index) ((object_lawful vector (Cells cells) is).1.all_cells refl index less);
  }

pub lawful_tells_all : LawfulTellsAll
lawful_tells_all spec numbers at s port frame now choices lawful full = step_told spec numbers port now s frame choices
    (tells_all spec numbers at s lawful full)

pub never_untold : (spec : Specification) (numbers given : List ℕ) (port now at : ℕ) (s : State) (place : Place) → IsLawful spec given at s → s.full ≡ true
    → place.state ≡ s → outcome_of spec numbers port now place ≡ Untold → ⊥
never_untold spec numbers given port now at s place lawful full same untold =
    subst Sound untold (sound_step spec numbers port now place (subst TellsAll (sym same) (tells_all spec given at s lawful full)))

pub never_comes : (spec : Specification) (numbers given : List ℕ) (port now at : ℕ) (s : State) (place after : Place) (result : Result Flow Stop) (stop : Stop)
    → IsLawful spec given at s → s.full ≡ true → place.state ≡ s → Comes result after (outcome_of spec numbers port now place) → result ≡ Err stop
    → stop ≡ stops.Untold → ⊥
never_comes spec numbers given port now at s place after result stop lawful full same comes is untold =
    never_untold spec numbers given port now at s place lawful full same
    (subst (λ r. Comes r after (outcome_of spec numbers port now place)) (is ∙ ap (λ (e : Stop). Err e) untold) comes)
