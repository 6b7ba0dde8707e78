-- Long division bit by bit. No public clause rests on this file.
use Rattle.std.specs.Prelude.{◌≡◌, ℕ, ◌+◌, ◌-◌, ◌*◌, ◌<◌, ◌%◌, ◌^◌, ℤ, Bool, not, nat_lt, if◌then◌else◌, List, length, drop, All}
use Rattle.vg_bits.specs.Words.{bit}
use Rattle.vg_cnf.specs.Clauses.{ClauseSet, IsOver}
use Rattle.vg_blast.specs.Circuits.{truth, number, Holds, Builds}

-- what is left of a remainder with one more bit, where the divisor is taken once if it fits
abbrev pub left_of : ℕ → ℕ → ℕ
left_of longer divisor = if nat_lt longer divisor then longer else longer - divisor

-- one step: whether the divisor fits into the remainder with one more bit, and what is left
pub record DividesStep (old new : ClauseSet) (fits : ℤ) (left remainder : List ℤ) (next : ℤ) (divisor : List ℤ) : Type 0 where
  pub builds : Builds old new (108 * length divisor + 72)
  pub over_fits : IsOver new.variables fits
  pub over : All (IsOver new.variables) left
  pub width : length left ≡ length divisor
  pub fits_is : (v : List Bool) → Holds v new → truth v fits ≡ not (nat_lt (bit (truth v next) + 2 * number v remainder) (number v divisor))
  pub left_is : (v : List Bool) → Holds v new → number v left ≡ left_of (bit (truth v next) + 2 * number v remainder) (number v divisor) % 2 ^ length divisor

-- q and r are quotient and remainder of a number with i bits, and all ones and that number where the divisor is 0
pub record IsDivided (a b q r i : ℕ) : Type 0 where
  pub whole : 0 < b → (q * b + r ≡ a) × (r < b)
  pub by_zero : b ≡ 0 → (q + 1 ≡ 2 ^ i) × (r ≡ a)

-- the first i bits of the dividend, from the highest on, are divided
pub record Divides (old new : ClauseSet) (cost : ℕ) (quotient remainder a b : List ℤ) (i : ℕ) : Type 0 where
  pub builds : Builds old new cost
  pub over_quotient : All (IsOver new.variables) quotient
  pub over_remainder : All (IsOver new.variables) remainder
  pub width_quotient : length quotient ≡ i
  pub width_remainder : length remainder ≡ length b
  pub is : (v : List Bool) → Holds v new → IsDivided (number v (drop (length a - i) a)) (number v b) (number v quotient) (number v remainder) i
