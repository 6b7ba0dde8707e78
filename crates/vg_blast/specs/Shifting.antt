-- Shifts to the right with a literal from the left. No public clause rests on this file.
use Rattle.std.specs.Prelude.{◌≡◌, ℕ, ◌<◌, ◌≤◌, ◌-◌, ◌/◌, ◌^◌, ℤ, Bool, if◌then◌else◌, List, length, All}
use Rattle.vg_cnf.specs.Clauses.{ClauseSet, IsOver}
use Rattle.vg_blast.specs.Circuits.{truth, number, Holds, Builds}

-- each bit of a number of width w turned, or none
abbrev pub turned : Bool → ℕ → ℕ → ℕ
turned all w n = if all then 2 ^ w - 1 - n else n

-- so many steps, of powers of two, reach as far as a width
pub record AreSteps (w steps : ℕ) : Type 0 where
  pub enough : w ≤ 2 ^ steps
  pub within : steps ≤ w
  pub last : 0 < steps → 2 ^ (steps - 1) < w

-- with the bits turned where the filling literal is true, it is a division by a power of two
pub record ShiftsRight (old new : ClauseSet) (cost : ℕ) (out : List ℤ) (fill : ℤ) (a : List ℤ) (by : List Bool → ℕ) : Type 0 where
  pub builds : Builds old new cost
  pub over : All (IsOver new.variables) out
  pub width : length out ≡ length a
  pub is : (v : List Bool) → Holds v new → turned (truth v fill) (length a) (number v out) ≡ turned (truth v fill) (length a) (number v a) / 2 ^ by v
