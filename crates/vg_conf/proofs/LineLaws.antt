-- Lines of other forms.
use Rattle.std.proofs.Common.{◌≡◌, ◌≢◌, ℕ, List, [], ◌∷◌, length, map, refl, Err}
use Rattle.vg_stree.specs.Specification.{Specification}
use Rattle.vg_conf.specs.declared.fault.ConfFault.TheVariants as faults
use Rattle.vg_conf.specs.Given.{Gathered}
use Rattle.vg_conf.specs.Lines.{after_words}

-- a line whose words are as many as those of no form
pub other_words : {X : Type 0} (see : X → List ℕ) (spec : Specification) (line : ℕ) (given : Gathered) (words : List X) → length words ≢ 2
    → length words ≢ 4 → length words ≢ 5 →
    after_words spec line given (map see words) ≡ Err (faults.Line line)
other_words see spec line given [] two four five = refl
other_words see spec line given (a ∷ []) two four five = refl
other_words see spec line given (a ∷ b ∷ []) two four five = absurd (two refl)
other_words see spec line given (a ∷ b ∷ c ∷ []) two four five = refl
other_words see spec line given (a ∷ b ∷ c ∷ d ∷ []) two four five = absurd (four refl)
other_words see spec line given (a ∷ b ∷ c ∷ d ∷ e ∷ []) two four five = absurd (five refl)
other_words see spec line given (a ∷ b ∷ c ∷ d ∷ e ∷ f ∷ words) two four five = refl
