-- Each operator is its tests and its formula.
use Rattle.std.proofs.Common.{◌≡◌, ℕ, ◌/◌, ◌%◌, ◌^◌, ◌<◌, arith, Bool, true, false, ℤ, pos, List, Option, Some, None, Ok, refl, sym, ap, subst, ◌∙◌}
use Rattle.std.specs.Prelude.{not, ◌&&◌, ◌||◌, nat_eq, if◌then◌else◌, unsigned_abs, neg_ℤ, ◌+ℤ◌, ◌-ℤ◌, ◌*ℤ◌, int_lt, int_le, int_div, int_rem, bit_or, bit_and}
use Rattle.std.specs.Int.{int_div_euclid}
use Rattle.std.specs.Ordering.{int_eq}
use Rattle.std.proofs.lemmas.Bool.{and_parts}
use Rattle.std.proofs.lemmas.Nat.{pow_pos, mod_below}
use Rattle.vg_bits.specs.Words as bits
use Rattle.vg_core.specs.declared.types.Integer.{Integer}
use Rattle.vg_core.specs.declared.reason.Reason.{Reason}
use Rattle.vg_core.specs.declared.tree.BinaryOp.{BinaryOp}
use Rattle.vg_core.specs.declared.tree.BinaryOp.TheVariants as binary
use Rattle.vg_core.specs.declared.tree.UnaryOp.{UnaryOp}
use Rattle.vg_core.specs.declared.tree.UnaryOp.TheVariants as unary
use Rattle.vg_cint.specs.Tests.{Test, first_against, unless, tested, AllHold}
use Rattle.vg_cint.specs.Types.{width}
use Rattle.vg_cint.specs.Values.{low, reading, word_of, held_tests, truth, is_zero}
use Rattle.vg_cint.specs.Operators as operators
use Rattle.vg_cint.specs.Formulas.{IsFormula, OneIsFormula, ConvertedIsFormula, tests_of, formula, no, is_less, is_some, negative, signed_quotient}
use Rattle.vg_cint.specs.Formulas.{signed_remainder}
use Rattle.vg_cint.proofs.Laws.{width_some}
use Rattle.vg_cint.proofs.FirstAgainst.{nothing_against}
use Rattle.vg_cint.proofs.Reduced.{read, sum_is, difference_is, negative_is, shifted_is, product_is}
use Rattle.vg_cint.proofs.Compared.{no_bit, or_bit, and_bit, zero_is, at_most, equal_is, places_is, moved_is, some_word, unsigned_quotient}
use Rattle.vg_cint.proofs.Compared.{unsigned_remainder, signed_quotient_is, signed_remainder_is, small_word}

-- ---- words and what they stand for

low_below : (t : Integer) (a : ℕ) → low t a < 2 ^ width t
low_below t a = mod_below a (2 ^ width t) (pow_pos (width t))

reading_is : (t : Integer) (a : ℕ) → reading t a ≡ read t.signed (width t) (low t a)
unfolding reading
reading_is t a = refl

word_is : (t : Integer) (z : ℤ) → word_of t z ≡ bits.reduced (width t) z
unfolding word_of
word_is t z = refl

-- the same tests, and the same where they hold
same_unless : (tests : List Test) (r : Option Reason) (x y : ℕ) → first_against tests ≡ r → (AllHold tests → x ≡ y) → unless r x ≡ unless r y
same_unless tests None x y e h = ap Ok (h ((nothing_against tests).0 e))
same_unless tests (Some reason) x y e h = refl

same_tested : (tests : List Test) (x y : ℕ) → (AllHold tests → x ≡ y) → tested tests x ≡ tested tests y
same_tested tests x y h = same_unless tests (first_against tests) x y refl h

always : (tests : List Test) (x y : ℕ) → x ≡ y → tested tests x ≡ tested tests y
always tests x y e = ap (tested tests) e

-- ---- sums and products

pub add_is : IsFormula binary.Add
add_is t u a b =
    always (held_tests t (reading t a +ℤ reading t b)) _ _
    (word_is t (reading t a +ℤ reading t b) ∙ (λ j. bits.reduced (width t) (reading_is t a j +ℤ reading_is t b j))
    ∙ sum_is t.signed (width t) (low t a) (low t b) (low_below t a) (low_below t b))

pub subtract_is : IsFormula binary.Subtract
subtract_is t u a b =
    always (held_tests t (reading t a -ℤ reading t b)) _ _
    (word_is t (reading t a -ℤ reading t b) ∙ (λ j. bits.reduced (width t) (reading_is t a j -ℤ reading_is t b j))
    ∙ difference_is t.signed (width t) (low t a) (low t b) (low_below t a) (low_below t b))

pub multiply_is : IsFormula binary.Multiply
multiply_is t u a b =
    always (held_tests t (reading t a *ℤ reading t b)) _ _
    (word_is t (reading t a *ℤ reading t b) ∙ (λ j. bits.reduced (width t) (reading_is t a j *ℤ reading_is t b j))
    ∙ product_is t.signed (width t) (low t a) (low t b) (width_some t) (low_below t a) (low_below t b))

-- ---- quotients

not_true : (b : Bool) → not b ≡ true → b ≡ false
not_true true h = cc
not_true false h = refl

some_divisor : (t : Integer) (b : ℕ) → not (is_zero (reading t b)) ≡ true → 0 < low t b
some_divisor t b h =
    some_word (low t b)
    (sym (zero_is t.signed (width t) (low t b) (low_below t b)) ∙ sym (ap is_zero (reading_is t b)) ∙ not_true (is_zero (reading t b)) h)

quotient_at : (s : Bool) (w x y : ℕ) → x < 2 ^ w → y < 2 ^ w → 0 < y → bits.reduced w (int_div (read s w x) (read s w y)) ≡
    (if s then signed_quotient w x y else bits.udiv w x y)
quotient_at true w x y h k some = signed_quotient_is w x y h k some
quotient_at false w x y h k some = unsigned_quotient w x y h some

remainder_at : (s : Bool) (w x y : ℕ) → x < 2 ^ w → y < 2 ^ w → 0 < y → bits.reduced w (int_rem (read s w x) (read s w y)) ≡
    (if s then signed_remainder w x y else bits.urem x y)
remainder_at true w x y h k some = signed_remainder_is w x y h k some
remainder_at false w x y h k some = unsigned_remainder w x y h some

pub divide_is : IsFormula binary.Divide
divide_is t u a b =
    same_tested (operators.quotient_tests t (reading t a) (reading t b)) _ _
    (λ h. word_is t (int_div (reading t a) (reading t b)) ∙ (λ j. bits.reduced (width t) (int_div (reading_is t a j) (reading_is t b j)))
    ∙ quotient_at t.signed (width t) (low t a) (low t b) (low_below t a) (low_below t b) (some_divisor t b h.0))

pub remainder_is : IsFormula binary.Remainder
remainder_is t u a b =
    same_tested (operators.quotient_tests t (reading t a) (reading t b)) _ _
    (λ h. word_is t (int_rem (reading t a) (reading t b)) ∙ (λ j. bits.reduced (width t) (int_rem (reading_is t a j) (reading_is t b j)))
    ∙ remainder_at t.signed (width t) (low t a) (low t b) (low_below t a) (low_below t b) (some_divisor t b h.0))

-- ---- shifts

places_at : (t u : Integer) (b : ℕ) → operators.is_within t (reading u b) ≡ true → operators.places u b ≡ low u b
places_at t u b h =
    let least = (and_parts _ _ h).0 in
    ap unsigned_abs (reading_is u b)
    ∙ places_is u.signed (width u) (low u b) (low_below u b) (subst (λ z. int_le (pos 0) z ≡ true) (reading_is u b) least)

pub left_is : IsFormula binary.ShiftLeft
left_is t u a b =
    same_tested (tests_of binary.ShiftLeft t u a b) _ _
    (λ h. word_is t (reading t a *ℤ pos (2 ^ operators.places u b)) ∙ (λ j. bits.reduced (width t) (reading_is t a j *ℤ pos (2 ^ places_at t u b h.0 j)))
    ∙ shifted_is t.signed (width t) (low t a) (low u b) (low_below t a))

right_at : (s : Bool) (w x n : ℕ) → x < 2 ^ w → bits.reduced w (int_div_euclid (read s w x) (pos (2 ^ n))) ≡ (if s then bits.ashr w x n else bits.lshr x n)
right_at true w x n h = refl
right_at false w x n h = moved_is w x n h

pub right_is : IsFormula binary.ShiftRight
right_is t u a b =
    same_tested (tests_of binary.ShiftRight t u a b) _ _
    (λ h. word_is t (int_div_euclid (reading t a) (pos (2 ^ operators.places u b)))
    ∙ (λ j. bits.reduced (width t) (int_div_euclid (reading_is t a j) (pos (2 ^ places_at t u b h.0 j))))
    ∙ right_at t.signed (width t) (low t a) (low u b) (low_below t a))

-- ---- comparisons

equal_at : (t : Integer) (a b : ℕ) → operators.equal t a b ≡ nat_eq (low t a) (low t b)
equal_at t a b = (λ j. int_eq (reading_is t a j) (reading_is t b j)) ∙ equal_is t.signed (width t) (low t a) (low t b) (low_below t a) (low_below t b)

less_of : (s : Bool) (w x y : ℕ) → bits.bit (int_lt (read s w x) (read s w y)) ≡ is_less s w x y
less_of true w x y = refl
less_of false w x y = refl

less_at : (t : Integer) (a b : ℕ) → bits.bit (operators.less t a b) ≡ is_less t.signed (width t) (low t a) (low t b)
less_at t a b = (λ j. bits.bit (int_lt (reading_is t a j) (reading_is t b j))) ∙ less_of t.signed (width t) (low t a) (low t b)

at_most_at : (t : Integer) (a b : ℕ) → bits.bit (operators.less_equal t a b) ≡ no (is_less t.signed (width t) (low t b) (low t a))
at_most_at t a b = ap bits.bit (at_most (reading t a) (reading t b)) ∙ no_bit (operators.less t b a) ∙ ap no (less_at t b a)

truth_at : (t : Integer) (a : ℕ) → bits.bit (truth t a) ≡ is_some (low t a)
truth_at t a =
    ap (λ z. bits.bit (not (is_zero z))) (reading_is t a) ∙ ap (λ b. bits.bit (not b)) (zero_is t.signed (width t) (low t a) (low_below t a))
    ∙ no_bit (nat_eq (low t a) 0)

pub words_are : (op : BinaryOp) → IsFormula op
words_are binary.OrElse t u a b = ap Ok (or_bit (truth t a) (truth u b) ∙ (λ j. bit_or (truth_at t a j) (truth_at u b j)))
words_are binary.AndThen t u a b = ap Ok (and_bit (truth t a) (truth u b) ∙ (λ j. bit_and (truth_at t a j) (truth_at u b j)))
words_are binary.BitOr t u a b = refl
words_are binary.BitXor t u a b = refl
words_are binary.BitAnd t u a b = refl
words_are binary.Equal t u a b = ap (λ c. Ok (bits.bit c)) (equal_at t a b)
words_are binary.NotEqual t u a b = ap (λ c. Ok (bits.bit (not c))) (equal_at t a b) ∙ ap Ok (no_bit (nat_eq (low t a) (low t b)))
words_are binary.Less t u a b = ap Ok (less_at t a b)
words_are binary.Greater t u a b = ap Ok (less_at t b a)
words_are binary.LessEqual t u a b = ap Ok (at_most_at t a b)
words_are binary.GreaterEqual t u a b = ap Ok (at_most_at t b a)
words_are binary.ShiftLeft t u a b = left_is t u a b
words_are binary.ShiftRight t u a b = right_is t u a b
words_are binary.Add t u a b = add_is t u a b
words_are binary.Subtract t u a b = subtract_is t u a b
words_are binary.Multiply t u a b = multiply_is t u a b
words_are binary.Divide t u a b = divide_is t u a b
words_are binary.Remainder t u a b = remainder_is t u a b

-- ---- one operand

twice : (b : Bool) → no (no (bits.bit b)) ≡ bits.bit b
twice true = refl
twice false = refl

not_truth : (t : Integer) (a : ℕ) → bits.bit (not (truth t a)) ≡ bits.eq (low t a) 0
not_truth t a = no_bit (truth t a) ∙ ap no (truth_at t a) ∙ twice (nat_eq (low t a) 0)

pub word_is_formula : OneIsFormula
word_is_formula unary.Negate t a =
    always (held_tests t (neg_ℤ (reading t a))) _ _
    (word_is t (neg_ℤ (reading t a)) ∙ (λ j. bits.reduced (width t) (neg_ℤ (reading_is t a j))) ∙ negative_is t.signed (width t) (low t a) (low_below t a))
word_is_formula unary.Complement t a = refl
word_is_formula unary.Not t a = ap Ok (not_truth t a)
word_is_formula unary.Load t a = ap Ok (not_truth t a)
word_is_formula unary.Address t a = ap Ok (not_truth t a)

-- ---- conversions

whole : (n : ℕ) → n / 2 ^ 0 ≡ n
whole n = omega arith

converted_at : (s : Bool) (v w x : ℕ) → bits.reduced w (read s v x) ≡ (if s then bits.sext v w x else bits.extract 0 w x)
converted_at true v w x = refl
converted_at false v w x = ap (λ n. n % 2 ^ w) (sym (whole x))

pub converted_is : ConvertedIsFormula
converted_is to from a = word_is to (reading from a) ∙ ap (bits.reduced (width to)) (reading_is from a)
    ∙ converted_at from.signed (width from) (width to) (low from a)
