-- The operators on words alone: the tests of each, and what it gives where they hold as a formula of machine words at the width of its type. The terms of
-- a run whose words aren't known are built by these.
use Rattle.std.specs.Prelude.{◌≡◌, ℕ, Bool, not, nat_eq, if◌then◌else◌, bit_and, bit_or, bit_xor, List, [], ◌++◌, ◌+ℤ◌, ◌-ℤ◌, ◌*ℤ◌, neg_ℤ}
use Rattle.vg_bits.specs.Words as bits
use Rattle.vg_core.specs.declared.types.Integer.{Integer}
use Rattle.vg_core.specs.declared.tree.BinaryOp.{BinaryOp}
use Rattle.vg_core.specs.declared.tree.BinaryOp.TheVariants as binary
use Rattle.vg_core.specs.declared.tree.UnaryOp.{UnaryOp}
use Rattle.vg_core.specs.declared.tree.UnaryOp.TheVariants as unary
use Rattle.vg_cint.specs.Tests.{Test, tested}
use Rattle.vg_cint.specs.Types.{width, is_apart}
use Rattle.vg_cint.specs.Values.{low, reading, converted, held_tests}
use Rattle.vg_cint.specs.Operators as operators
use Rattle.vg_cint.specs.Expressions.{of_words, of_word}

-- ---- what is asked

abbrev pub tests_of : BinaryOp → (t u : Integer) → ℕ → ℕ → List Test
tests_of binary.Add t u a b = held_tests t (reading t a +ℤ reading t b)
tests_of binary.Subtract t u a b = held_tests t (reading t a -ℤ reading t b)
tests_of binary.Multiply t u a b = held_tests t (reading t a *ℤ reading t b)
tests_of binary.Divide t u a b = operators.quotient_tests t (reading t a) (reading t b)
tests_of binary.Remainder t u a b = operators.quotient_tests t (reading t a) (reading t b)
tests_of binary.ShiftLeft t u a b = operators.shift_tests t (reading u b) ++ operators.left_tests t (reading t a) (operators.places u b)
tests_of binary.ShiftRight t u a b = operators.shift_tests t (reading u b)
tests_of _ t u a b = []

abbrev pub tests_of_one : UnaryOp → Integer → ℕ → List Test
tests_of_one unary.Negate t a = held_tests t (neg_ℤ (reading t a))
tests_of_one _ t a = []

-- ---- formulas, of two words that are w wide and whether their type is signed

abbrev pub no : ℕ → ℕ
no bit = bits.not 1 bit

abbrev pub is_less : (signed : Bool) → (w x y : ℕ) → ℕ
is_less signed w x y = if signed then bits.slt w x y else bits.ult x y

abbrev pub is_some : ℕ → ℕ
is_some x = no (bits.eq x 0)

abbrev pub negative : (w x : ℕ) → ℕ
negative w x = bits.sub w 0 x

-- a signed quotient or remainder is that of the magnitudes, with a sign
abbrev pub is_minus : (w x : ℕ) → Bool
is_minus w x = nat_eq (bits.slt w x 0) 1

abbrev pub magnitude : (w x : ℕ) → ℕ
magnitude w x = if is_minus w x then negative w x else x

abbrev pub signed_by : (minus : Bool) → (w x : ℕ) → ℕ
signed_by minus w x = if minus then negative w x else x

abbrev pub differ : Bool → Bool → Bool
differ one other = if one then not other else other

abbrev pub signed_quotient : (w x y : ℕ) → ℕ
signed_quotient w x y = signed_by (differ (is_minus w x) (is_minus w y)) w (bits.udiv w (magnitude w x) (magnitude w y))

abbrev pub signed_remainder : (w x y : ℕ) → ℕ
signed_remainder w x y = signed_by (is_minus w x) w (bits.urem (magnitude w x) (magnitude w y))

abbrev pub formula : BinaryOp → (signed : Bool) → (w x y : ℕ) → ℕ
formula binary.OrElse signed w x y = bit_or (is_some x) (is_some y)
formula binary.AndThen signed w x y = bit_and (is_some x) (is_some y)
formula binary.BitOr signed w x y = bit_or x y
formula binary.BitXor signed w x y = bit_xor x y
formula binary.BitAnd signed w x y = bit_and x y
formula binary.Equal signed w x y = bits.eq x y
formula binary.NotEqual signed w x y = no (bits.eq x y)
formula binary.Less signed w x y = is_less signed w x y
formula binary.Greater signed w x y = is_less signed w y x
formula binary.LessEqual signed w x y = no (is_less signed w y x)
formula binary.GreaterEqual signed w x y = no (is_less signed w x y)
formula binary.ShiftLeft signed w x y = bits.shl w x y
formula binary.ShiftRight signed w x y = if signed then bits.ashr w x y else bits.lshr x y
formula binary.Add signed w x y = bits.add w x y
formula binary.Subtract signed w x y = bits.sub w x y
formula binary.Multiply signed w x y = bits.mul w x y
formula binary.Divide signed w x y = if signed then signed_quotient w x y else bits.udiv w x y
formula binary.Remainder signed w x y = if signed then signed_remainder w x y else bits.urem x y

abbrev pub formula_of_one : UnaryOp → (w x : ℕ) → ℕ
formula_of_one unary.Negate w x = negative w x
formula_of_one unary.Complement w x = bits.not w x
formula_of_one _ w x = bits.eq x 0

-- ---- the laws

-- the type of the right operand: that of the left one, but for shifts, `&&` and `||`
abbrev pub right_of : BinaryOp → (t u : Integer) → Integer
right_of op t u = if is_apart op then u else t

abbrev pub IsFormula : BinaryOp → Type 0
IsFormula op = (t u : Integer) (a b : ℕ) →
    of_words op t u a b ≡ tested (tests_of op t u a b) (formula op t.signed (width t) (low t a) (low (right_of op t u) b))

abbrev pub OneIsFormula : Type 0
OneIsFormula = (op : UnaryOp) (t : Integer) (a : ℕ) → of_word op t a ≡ tested (tests_of_one op t a) (formula_of_one op (width t) (low t a))

-- a conversion extends the word by its sign or by zeros, or cuts it
abbrev pub ConvertedIsFormula : Type 0
ConvertedIsFormula = (to from : Integer) (a : ℕ) →
    converted to from a ≡ (if from.signed then bits.sext (width from) (width to) (low from a) else bits.extract 0 (width to) (low from a))
