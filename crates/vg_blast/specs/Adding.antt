-- Sums and differences bit by bit. No public clause rests on this file.
use Rattle.std.specs.Prelude.{◌≡◌, ℕ, ◌+◌, ◌*◌, ◌^◌, ℤ, Bool, if◌then◌else◌, List, length, take, All}
use Rattle.vg_bits.specs.Words.{bit}
use Rattle.vg_cnf.specs.Clauses.{ClauseSet, IsOver}
use Rattle.vg_blast.specs.Circuits.{truth, number, Holds, Builds, differ}

-- whether a - b - c is below 0
abbrev pub borrow : Bool → Bool → Bool → Bool
borrow a b c = if differ a b then b else c

-- a full adder
pub record AddsBits (old new : ClauseSet) (sum next a b carry : ℤ) : Type 0 where
  pub builds : Builds old new 72
  pub over_sum : IsOver new.variables sum
  pub over_next : IsOver new.variables next
  pub is : (v : List Bool) → Holds v new → bit (truth v sum) + 2 * bit (truth v next) ≡ bit (truth v a) + bit (truth v b) + bit (truth v carry)

-- a full subtractor
pub record TakesBits (old new : ClauseSet) (left next a b borrowed : ℤ) : Type 0 where
  pub builds : Builds old new 72
  pub over_left : IsOver new.variables left
  pub over_next : IsOver new.variables next
  pub is : (v : List Bool) → Holds v new → bit (truth v left) + bit (truth v b) + bit (truth v borrowed) ≡ bit (truth v a) + 2 * bit (truth v next)

-- the difference of two words, and what is borrowed for it from above
pub record MakesDifference (old new : ClauseSet) (left : List ℤ) (borrowed : ℤ) (a b : List ℤ) : Type 0 where
  pub builds : Builds old new (72 * length a)
  pub over : All (IsOver new.variables) left
  pub over_borrowed : IsOver new.variables borrowed
  pub width : length left ≡ length a
  pub is : (v : List Bool) → Holds v new → number v left + number v b ≡ number v a + 2 ^ length a * bit (truth v borrowed)

-- the sum of the first i bits of two words, and the carry
pub record Sums (old new : ClauseSet) (out : List ℤ) (carry : ℤ) (a b : List ℤ) (i : ℕ) : Type 0 where
  pub builds : Builds old new (72 * i)
  pub over : All (IsOver new.variables) out
  pub over_carry : IsOver new.variables carry
  pub width : length out ≡ i
  pub is : (v : List Bool) → Holds v new → number v out + 2 ^ i * bit (truth v carry) ≡ number v (take i a) + number v (take i b)

-- the difference of the first i bits of two words, and the borrow
pub record Differs (old new : ClauseSet) (out : List ℤ) (borrowed : ℤ) (a b : List ℤ) (i : ℕ) : Type 0 where
  pub builds : Builds old new (72 * i)
  pub over : All (IsOver new.variables) out
  pub over_borrowed : IsOver new.variables borrowed
  pub width : length out ≡ i
  pub is : (v : List Bool) → Holds v new → number v out + number v (take i b) ≡ number v (take i a) + 2 ^ i * bit (truth v borrowed)
