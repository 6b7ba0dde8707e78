-- What a word of an integer type stands for, and the word of an integer (C11 6.2.6.2 in two's complement, 6.3.1.3).
use Rattle.std.specs.Prelude.{ℕ, ◌-◌, ◌%◌, ◌^◌, Bool, not, ◌&&◌, ◌||◌, if◌then◌else◌, List, [], ◌∷◌, ℤ, pos, neg_ℤ, int_le, nat_eq, unsigned_abs, Result}
use Rattle.vg_bits.specs.Words as bits
use Rattle.vg_core.specs.declared.types.Integer.{Integer}
use Rattle.vg_core.specs.declared.reason.Reason.{Reason}
use Rattle.vg_core.specs.declared.reason.Reason.TheVariants as reasons
use Rattle.vg_cint.specs.Types.{width}
use Rattle.vg_cint.specs.Tests.{Test, test, tested}

-- a word of the type: a number below 2 ^ width. Of a greater number the low bits count
abbrev pub low : Integer → ℕ → ℕ
low t a = a % 2 ^ width t

-- the integer that a word of the type stands for
unfoldable pub reading : Integer → ℕ → ℤ
reading t a = if t.signed then bits.signed (width t) (low t a) else pos (low t a)

-- the word of the integer that equals z modulo 2 ^ width and that the type can hold
unfoldable pub word_of : Integer → ℤ → ℕ
word_of t z = bits.reduced (width t) z

-- the least and the greatest value of the type
abbrev pub least : Integer → ℤ
least t = if t.signed then neg_ℤ (pos (2 ^ (width t - 1))) else pos 0

abbrev pub greatest : Integer → ℤ
greatest t = if t.signed then pos (2 ^ (width t - 1) - 1) else pos (2 ^ width t - 1)

unfoldable pub can_hold : Integer → ℤ → Bool
can_hold t z = int_le (least t) z && int_le z (greatest t)

-- a conversion (6.3.1.3): the same value where the type can hold it, else modulo 2 ^ width, to a signed type too
abbrev pub converted : (to from : Integer) → ℕ → ℕ
converted to from a = word_of to (reading from a)

-- a signed type can hold the result of an operator (6.5, paragraph 5); an unsigned one takes it modulo 2 ^ width (6.2.5, paragraph 9)
unfoldable pub fits : Integer → ℤ → Bool
fits t z = not t.signed || can_hold t z

abbrev pub held_tests : Integer → ℤ → List Test
held_tests t z = test reasons.Overflow (fits t z) ∷ []

-- the word of an operator's whole-number result
abbrev pub held : Integer → ℤ → Result ℕ Reason
held t z = tested (held_tests t z) (word_of t z)

abbrev pub is_zero : ℤ → Bool
is_zero z = nat_eq (unsigned_abs z) 0

-- whether a condition holds: whether the value is other than 0
abbrev pub truth : Integer → ℕ → Bool
truth t a = not (is_zero (reading t a))
