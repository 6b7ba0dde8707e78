-- The literals that are true, in the order in which they were made so. No public clause rests on this file.
use Rattle.std.specs.Prelude.{◌≡◌, ℕ, ◌+◌, ◌*◌, ◌<◌, ◌≤◌, ◌^◌, ℤ, pos, unsigned_abs, Bool, true, false, List, [], ◌∷◌, ◌++◌, length, take}
use Rattle.std.specs.Prelude.{slice_index_or, All, count_by, ◌⊎◌}
use Rattle.vg_cnf.specs.Clauses.{holds, IsOver}
use Rattle.vg_units.specs.Codes.{code}

-- literals over the variables up to a number, in order
pub record Made : Type 0 where
  pub variables : ℕ
  pub literals : List ℤ

-- each literal is made true once, and those that are true are marked
pub record IsMarked (variables : ℕ) (literals : List ℤ) (marks : List Bool) : Type 0 where
  pub in_range : variables < 2 ^ 31
  pub places : length marks ≡ 2 * variables + 2
  pub over : All (IsOver variables) literals
  pub marked : (k : ℤ) → unsigned_abs k ≤ variables → slice_index_or marks (code k) false ≡ holds literals k
  pub once : (i : ℕ) → i < length literals → holds (take i literals) (slice_index_or literals i (pos 0)) ≡ false
  pub count : count_by (λ b. b) marks ≡ length literals

-- a literal is true, and was before or is new
abbrev pub IsMadeTrue : Made → Made → ℤ → Type 0
IsMadeTrue old new literal = (new ≡ old) × (holds old.literals literal ≡ true) ⊎ (new ≡ record old { literals = old.literals ++ literal ∷ [] })
    × (holds old.literals literal ≡ false)
