-- What an operator gives is a word of the result's type: below 2 ^ width.
use Rattle.std.proofs.Common.{ℕ, ◌^◌, ◌<◌, ◌≤◌, Bool, true, false, ℤ, arith, ◌≡◌, sym, ap, subst, ◌∙◌}
use Rattle.std.specs.Prelude.{if◌then◌else◌, IfOk, List, ◌++◌, Option, Some, None, Result, Ok, not, ◌&&◌, ◌||◌, pos, ◌*ℤ◌, int_div, int_rem}
use Rattle.std.specs.Int.{int_div_euclid}
use Rattle.std.specs.Int.Bits.{and_lt}
use Rattle.std.proofs.Math.Pow.{pow_mono}
use Rattle.std.proofs.lemmas.Nat.{or_lt, xor_lt, mod_below, pow_pos}
use Rattle.vg_bits.specs.Words.{bit}
use Rattle.vg_bits.proofs.Laws.{not-below}
use Rattle.vg_core.specs.declared.types.Integer.{Integer}
use Rattle.vg_core.specs.declared.reason.Reason.{Reason}
use Rattle.vg_core.specs.declared.tree.BinaryOp.{BinaryOp}
use Rattle.vg_core.specs.declared.tree.BinaryOp.TheVariants as binary
use Rattle.vg_core.specs.declared.tree.UnaryOp.{UnaryOp}
use Rattle.vg_core.specs.declared.tree.UnaryOp.TheVariants as unary
use Rattle.vg_cint.specs.Types.{int, width, promoted, is_test, left_type, type_of_binary, type_of_unary}
use Rattle.vg_cint.specs.Tests.{Test, first_against, unless, tested}
use Rattle.vg_cint.specs.Values.{low, reading, word_of, held, held_tests, truth}
use Rattle.vg_cint.specs.Operators as operators
use Rattle.vg_cint.specs.Expressions.{of_words, of_word}
use Rattle.vg_cint.proofs.Laws.{width_some, word_of_below}

abbrev Below : Integer → Result ℕ Reason → Type 0
Below t r = IfOk r (λ a. a < 2 ^ width t)

low_below : (t : Integer) (a : ℕ) → low t a < 2 ^ width t
low_below t a = mod_below a (2 ^ width t) (pow_pos (width t))

bit_below : (b : Bool) → bit b < 2 ^ 32
bit_below true = omega arith
bit_below false = omega arith

bit_below_any : (b : Bool) (w : ℕ) → 0 < w → bit b < 2 ^ w
bit_below_any true w h = let l : 2 ^ 1 ≤ 2 ^ w = pow_mono h in omega (arith, l)
bit_below_any false w h = pow_pos w

-- what is done where nothing is against it
unless_below : (t : Integer) (r : Option Reason) (a : ℕ) → a < 2 ^ width t → Below t (unless r a)
unless_below t None a h = h
unless_below t (Some reason) a h = tt

tested_below : (t : Integer) (tests : List Test) (z : ℤ) → Below t (tested tests (word_of t z))
tested_below t tests z = unless_below t (first_against tests) (word_of t z) (word_of_below t z)

held_below : (t : Integer) (z : ℤ) → Below t (held t z)
held_below t z = tested_below t (held_tests t z) z

quotient_below : (t : Integer) (x y : ℤ) → Below t (operators.quotient t x y)
quotient_below t x y = tested_below t (operators.quotient_tests t x y) (int_div x y)

remaining_below : (t : Integer) (x y : ℤ) → Below t (operators.remaining t x y)
remaining_below t x y = tested_below t (operators.quotient_tests t x y) (int_rem x y)

left_below : (t u : Integer) (a b : ℕ) → Below t (operators.shift_left t u a b)
left_below t u a b =
    tested_below t (operators.shift_tests t (reading u b) ++ operators.left_tests t (reading t a) (operators.places u b))
    (reading t a *ℤ pos (2 ^ operators.places u b))

right_below : (t u : Integer) (a b : ℕ) → Below t (operators.shift_right t u a b)
right_below t u a b = tested_below t (operators.shift_tests t (reading u b)) (int_div_euclid (reading t a) (pos (2 ^ operators.places u b)))

words_below : (op : BinaryOp) (t u : Integer) (a b : ℕ) → Below (if is_test op then int else t) (of_words op t u a b)
words_below binary.OrElse t u a b = bit_below (truth t a || truth u b)
words_below binary.AndThen t u a b = bit_below (truth t a && truth u b)
words_below binary.BitOr t u a b = or_lt (width t) (low t a) (low t b) (low_below t a) (low_below t b)
words_below binary.BitXor t u a b = xor_lt (width t) (low t a) (low t b) (low_below t a) (low_below t b)
words_below binary.BitAnd t u a b = and_lt (width t) (low t a) (low t b) (low_below t a) (low_below t b)
words_below binary.Equal t u a b = bit_below (operators.equal t a b)
words_below binary.NotEqual t u a b = bit_below (not (operators.equal t a b))
words_below binary.Less t u a b = bit_below (operators.less t a b)
words_below binary.Greater t u a b = bit_below (operators.less t b a)
words_below binary.LessEqual t u a b = bit_below (operators.less_equal t a b)
words_below binary.GreaterEqual t u a b = bit_below (operators.less_equal t b a)
words_below binary.ShiftLeft t u a b = left_below t u a b
words_below binary.ShiftRight t u a b = right_below t u a b
words_below binary.Add t u a b = held_below t _
words_below binary.Subtract t u a b = held_below t _
words_below binary.Multiply t u a b = held_below t _
words_below binary.Divide t u a b = quotient_below t (reading t a) (reading t b)
words_below binary.Remainder t u a b = remaining_below t (reading t a) (reading t b)

-- as the code has it, of the types that it found
pub binary_below : (op : BinaryOp) (x y t u v : Integer) (a b w : ℕ) → t ≡ left_type op x y → v ≡ type_of_binary op x y → Ok w ≡ of_words op t u a b
    → w < 2 ^ width v
binary_below op x y t u v a b w left whole e =
    let below : Below (type_of_binary op x y) (Ok w) =
    subst (λ (r : Result ℕ Reason). Below (type_of_binary op x y) r) (sym e)
    (subst (λ (s : Integer). Below (if is_test op then int else s) (of_words op t u a b)) left (words_below op t u a b)) in
    subst (λ (s : Integer). w < 2 ^ width s) (sym whole) below

word_below : (op : UnaryOp) (t : Integer) (a : ℕ) → Below (type_of_unary op t) (of_word op (promoted t) a)
word_below unary.Negate t a = held_below (promoted t) _
word_below unary.Complement t a = not-below (width (promoted t)) (low (promoted t) a)
word_below unary.Not t a = bit_below (not (truth (promoted t) a))
word_below unary.Load t a = bit_below_any (not (truth (promoted t) a)) (width (promoted t)) (width_some (promoted t))
word_below unary.Address t a = bit_below_any (not (truth (promoted t) a)) (width (promoted t)) (width_some (promoted t))

pub unary_below : (op : UnaryOp) (x t v : Integer) (a w : ℕ) → t ≡ promoted x → v ≡ type_of_unary op x → Ok w ≡ of_word op t a → w < 2 ^ width v
unary_below op x t v a w operand whole e =
    let below : Below (type_of_unary op x) (Ok w) =
    subst (λ (r : Result ℕ Reason). Below (type_of_unary op x) r) (sym (e ∙ ap (λ (s : Integer). of_word op s a) operand)) (word_below op x a) in
    subst (λ (s : Integer). w < 2 ^ width s) (sym whole) below
