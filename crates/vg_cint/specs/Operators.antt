-- The operators of C on words of integer types: what the whole-number result is, and where there is none (C11 6.5.3.3, 6.5.5 to 6.5.12).
-- But for a shift, both operands are of the type t, which is the result's.
use Rattle.std.specs.Prelude.{ℕ, ◌^◌, Bool, not, ◌&&◌, ◌||◌, ℤ, pos, neg_ℤ, ◌+ℤ◌, ◌-ℤ◌, ◌*ℤ◌, int_lt, int_le, int_div, int_rem, unsigned_abs, bit_and}
use Rattle.std.specs.Prelude.{bit_or, bit_xor, List, [], ◌∷◌, ◌++◌, Result}
use Rattle.std.specs.Int.{int_div_euclid}
use Rattle.std.specs.Ordering.{int_eq}
use Rattle.vg_bits.specs.Words as bits
use Rattle.vg_core.specs.declared.types.Integer.{Integer}
use Rattle.vg_core.specs.declared.reason.Reason.{Reason}
use Rattle.vg_core.specs.declared.reason.Reason.TheVariants as reasons
use Rattle.vg_cint.specs.Types.{width}
use Rattle.vg_cint.specs.Tests.{Test, test, tested}
use Rattle.vg_cint.specs.Values.{low, reading, word_of, fits, held, is_zero}

-- ---- sums and products (6.5.5, 6.5.6)

abbrev pub add : Integer → ℕ → ℕ → Result ℕ Reason
add t a b = held t (reading t a +ℤ reading t b)

abbrev pub subtract : Integer → ℕ → ℕ → Result ℕ Reason
subtract t a b = held t (reading t a -ℤ reading t b)

abbrev pub multiply : Integer → ℕ → ℕ → Result ℕ Reason
multiply t a b = held t (reading t a *ℤ reading t b)

-- ---- quotients and remainders (6.5.5): the quotient is rounded towards zero, so the remainder has the dividend's sign

-- where the quotient can't be held, the remainder isn't defined either (6.5.5, paragraph 6)
abbrev pub quotient_tests : Integer → ℤ → ℤ → List Test
quotient_tests t x y = test reasons.DivZero (not (is_zero y)) ∷ test reasons.Overflow (fits t (int_div x y)) ∷ []

abbrev pub quotient : Integer → ℤ → ℤ → Result ℕ Reason
quotient t x y = tested (quotient_tests t x y) (word_of t (int_div x y))

abbrev pub divide : Integer → ℕ → ℕ → Result ℕ Reason
divide t a b = quotient t (reading t a) (reading t b)

abbrev pub remaining : Integer → ℤ → ℤ → Result ℕ Reason
remaining t x y = tested (quotient_tests t x y) (word_of t (int_rem x y))

abbrev pub remainder : Integer → ℕ → ℕ → Result ℕ Reason
remainder t a b = remaining t (reading t a) (reading t b)

-- ---- bits (6.5.10 to 6.5.12)

abbrev pub and : Integer → ℕ → ℕ → ℕ
and t a b = bit_and (low t a) (low t b)

abbrev pub or : Integer → ℕ → ℕ → ℕ
or t a b = bit_or (low t a) (low t b)

abbrev pub xor : Integer → ℕ → ℕ → ℕ
xor t a b = bit_xor (low t a) (low t b)

-- ---- shifts (6.5.7) of a left operand of type t by a right one of type u, each promoted

-- the right operand isn't negative, and is below the width of the left one
abbrev pub is_within : Integer → ℤ → Bool
is_within t n = int_le (pos 0) n && int_lt n (pos (width t))

abbrev pub shift_tests : Integer → ℤ → List Test
shift_tests t n = test reasons.Shift (is_within t n) ∷ []

-- to the left: a signed operand isn't negative, and its type can hold the result
abbrev pub left_tests : Integer → ℤ → ℕ → List Test
left_tests t x n = test reasons.Shift (not t.signed || int_le (pos 0) x) ∷ test reasons.Shift (fits t (x *ℤ pos (2 ^ n))) ∷ []

abbrev pub moved_left : Integer → ℤ → ℕ → Result ℕ Reason
moved_left t x n = tested (left_tests t x n) (word_of t (x *ℤ pos (2 ^ n)))

-- to the right: the quotient by a power of two, rounded down for a negative operand too
abbrev pub moved_right : Integer → ℤ → ℕ → ℕ
moved_right t x n = word_of t (int_div_euclid x (pos (2 ^ n)))

-- by how many places
abbrev pub places : Integer → ℕ → ℕ
places u b = unsigned_abs (reading u b)

abbrev pub shift_left : (t u : Integer) → ℕ → ℕ → Result ℕ Reason
shift_left t u a b =
    tested (shift_tests t (reading u b) ++ left_tests t (reading t a) (places u b)) (word_of t (reading t a *ℤ pos (2 ^ places u b)))

abbrev pub shift_right : (t u : Integer) → ℕ → ℕ → Result ℕ Reason
shift_right t u a b = tested (shift_tests t (reading u b)) (moved_right t (reading t a) (places u b))

-- ---- comparisons (6.5.8, 6.5.9): of the values

abbrev pub equal : Integer → ℕ → ℕ → Bool
equal t a b = int_eq (reading t a) (reading t b)

abbrev pub less : Integer → ℕ → ℕ → Bool
less t a b = int_lt (reading t a) (reading t b)

abbrev pub less_equal : Integer → ℕ → ℕ → Bool
less_equal t a b = int_le (reading t a) (reading t b)

-- ---- one operand (6.5.3.3)

abbrev pub negated : Integer → ℕ → Result ℕ Reason
negated t a = held t (neg_ℤ (reading t a))

-- each bit turned
abbrev pub complement : Integer → ℕ → ℕ
complement t a = bits.not (width t) (low t a)
