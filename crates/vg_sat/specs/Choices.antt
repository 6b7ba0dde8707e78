-- Which variables are still to be decided. No public clause rests on this file.
use Rattle.std.specs.Prelude.{◌≡◌, ℕ, ◌<◌, ◌≤◌, ℤ, pos, neg_ℤ, true, false, ◌⊎◌}
use Rattle.vg_cnf.specs.Clauses.{holds, IsOver}
use Rattle.vg_units.specs.Searching.{Search}

-- a literal that is neither true nor false
pub record IsUndecided (s : Search) (literal : ℤ) : Type 0 where
  pub over : IsOver s.variables literal
  pub not_true : holds s.trail literal ≡ false
  pub not_false : holds s.trail (neg_ℤ literal) ≡ false

-- each variable is true or false
abbrev pub AreAssigned : Search → Type 0
AreAssigned s = (v : ℕ) → 0 < v → v ≤ s.variables → (holds s.trail (pos v) ≡ true) ⊎ (holds s.trail (neg_ℤ (pos v)) ≡ true)
