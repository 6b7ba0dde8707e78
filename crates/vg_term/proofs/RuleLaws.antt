-- The tables of rules are right: each simple answer has the width and the value of its operation.
use Rattle.std.proofs.Common.{◌≡◌, ℕ, suc, zero, ◌+◌, ◌-◌, ◌*◌, ◌%◌, ◌^◌, ◌<◌, cond, refl, sym, ap, subst, ◌∙◌, inl, inr, arith, le-ltb, eq-eqb}
use Rattle.std.specs.Prelude.{IfSome, Option, ℤ, pos, negsuc, nat_lt, int_lt, bit_and, bit_or}
use Rattle.std.specs.Int.{int_div_euclid}
use Rattle.std.specs.Int.Bits.{and_self, or_self, xor_self, and_zero_l, and_zero_r, or_zero_l, or_zero_r, xor_zero_l, xor_zero_r, xor_disjoint}
use Rattle.std.proofs.Math.Nat.{mod_self, mod-eq_of_lt, div-one, mod-one, zero-mod, zero-div}
use Rattle.std.proofs.lemmas.Bool.Decides.{eqb_tells}
use Rattle.std.proofs.lemmas.Nat.{pow_pos, mod_low, and_comm, or_comm, or_lt, le_or_r, and_mask, or_disjoint, and-not}
use Rattle.vg_bits.specs.Words as words
use Rattle.vg_bits.proofs.Laws.{reduced-signed}
use Rattle.vg_bits.proofs.Machine.{sub-is, signed_pos, halves}
use Rattle.vg_term.specs.Operations.{Bits, width_two, value_two}
use Rattle.vg_term.specs.Rules.{simple_bits, on_equal, on_opposite, before_zero, before_one, before_ones, after_zero, after_one, after_ones}
use Rattle.vg_term.specs.declared.rules.Simple.{Simple}
use Rattle.vg_term.specs.declared.node.Op.{Op}
use Rattle.vg_term.specs.declared.node.Op.TheVariants.{Add, Sub, Mul, Udiv, Urem, And, Or, Xor, Shl, Lshr, Ashr, Eq, Ult, Slt}
use Rattle.vg_term.proofs.Ranges.{IsRange}

-- a word of this width and value
abbrev pub word : ℕ → ℕ → Bits
word width value = record { width = width; value = value }

-- what an operation answers on two parts
abbrev pub two : Op → Bits → Bits → Bits
two op a b = word (width_two op a.width b.width) (value_two op a b)

-- a simple answer, where there is one, is the operation's
abbrev pub IsRight : Option Simple → Op → Bits → Bits → Bits → Type 0
IsRight simple op part a b = IfSome simple (λ s. simple_bits s op part ≡ two op a b)

at : (w : ℕ) {x y : ℕ} → x ≡ y → word w x ≡ word w y
at w e = ap (word w) e

-- ---- equal parts

sub_self : (w a : ℕ) → a < 2 ^ w → 0 ≡ words.sub w a a
sub_self w a h = let whole : a + (2 ^ w - a) ≡ 2 ^ w = omega arith in sym (sub-is w a a (omega arith) ∙ ap (λ n. n % 2 ^ w) whole ∙ mod_self (2 ^ w))

urem_self : (a : ℕ) → 0 ≡ words.urem a a
urem_self a = elim (eqb_tells a 0) [ inl z ↦ sym (ap (λ c. cond c a (a % a)) z.0 ∙ z.1) | inr n ↦ sym (ap (λ c. cond c a (a % a)) n.0 ∙ mod_self a) ]

less_self : (a : ℕ) → 0 ≡ words.bit (nat_lt a a)
less_self a = sym (ap words.bit (le-ltb a a (omega arith)))

int_less_self : (z : ℤ) → 0 ≡ words.bit (int_lt z z)
int_less_self (pos n) = less_self n
int_less_self (negsuc n) = less_self n

pub equal_right : (op : Op) (a : Bits) → IsRange a → IsRight (on_equal op) op a a a
equal_right Sub a r = at a.width (sub_self a.width a.value r.below)
equal_right Xor a r = at a.width (sym (xor_self a.value))
equal_right Urem a r = at a.width (urem_self a.value)
equal_right And a r = at a.width (sym (and_self a.value))
equal_right Or a r = at a.width (sym (or_self a.value))
equal_right Eq a r = at 1 (sym (ap words.bit (eq-eqb a.value a.value refl)))
equal_right Ult a r = at 1 (less_self a.value)
equal_right Slt a r = at 1 (int_less_self (words.signed a.width a.value))
equal_right _ a r = tt

-- ---- opposite parts

apart : (w a n : ℕ) → a < 2 ^ w → a + n ≡ 2 ^ w - 1 → bit_and a n ≡ 0
apart w a n h e =
    let other : n ≡ 2 ^ w - 1 - a = omega arith in
    let both = and-not w a a h h in
    let same = and_self a in
    let none : bit_and (2 ^ w - 1 - a) a ≡ 0 = omega arith in
    ap (bit_and a) other ∙ and_comm a (2 ^ w - 1 - a) ∙ none

unequal : (w a n : ℕ) → 0 < w → a + n ≡ 2 ^ w - 1 → 0 ≡ words.eq a n
unequal w a n some e =
    let even = halves w some in
    let half = pow_pos (w - 1) in
    elim (eqb_tells a n) [
      | inl same ↦ let same_value = same.1 in let none : ⊥ = omega (arith, half) in absurd none
      | inr other ↦ sym (ap words.bit other.0)
    ]

pub opposite_right : (op : Op) (a b part : Bits) → IsRange a → IsRange b → a.width ≡ part.width → b.width ≡ part.width
    → a.value + b.value ≡ words.all_ones part.width → IsRight (on_opposite op) op part a b
opposite_right And a b part r s e f sum = (λ j. word (sym e j) (sym (apart part.width a.value b.value (subst (λ w. a.value < 2 ^ w) e r.below) sum) j))
opposite_right Or a b part r s e f sum =
    let none = apart part.width a.value b.value (subst (λ w. a.value < 2 ^ w) e r.below) sum in
    (λ j. word (sym e j) (sym (or_disjoint a.value b.value none ∙ sum) j))
opposite_right Xor a b part r s e f sum =
    let none = apart part.width a.value b.value (subst (λ w. a.value < 2 ^ w) e r.below) sum in
    (λ j. word (sym e j) (sym (xor_disjoint a.value b.value none ∙ sum) j))
opposite_right Add a b part r s e f sum =
    let positive = pow_pos part.width in
    let whole : words.add a.width a.value b.value ≡ words.all_ones part.width = (λ j. sum j % 2 ^ e j) ∙ mod-eq_of_lt (omega arith) in
    (λ j. word (sym e j) (sym whole j))
opposite_right Eq a b part r s e f sum = at 1 (unequal part.width a.value b.value (subst (λ w. 0 < w) e r.some) sum)
opposite_right _ a b part r s e f sum = tt

-- ---- beside a constant

by_one : (z : ℤ) → int_div_euclid z (pos 1) ≡ z
by_one (pos n) = ap pos (div-one n)
by_one (negsuc n) = ap negsuc (div-one n)

small : (w a b : ℕ) → a < 2 ^ w → b ≡ a → a ≡ b % 2 ^ w
small w a b h e = sym (ap (λ n. n % 2 ^ w) e ∙ mod-eq_of_lt h)

sub_zero : (w a : ℕ) → a < 2 ^ w → a ≡ words.sub w a 0
sub_zero w a h = sym (sub-is w a 0 (omega arith) ∙ (let e : a + (2 ^ w - 0) ≡ 1 * 2 ^ w + a = omega arith in ap (λ n. n % 2 ^ w) e) ∙ mod_low 1 w a h)

ashr_zero : (w a : ℕ) → a < 2 ^ w → a ≡ words.ashr w a 0
ashr_zero w a h = sym (ap (words.reduced w) (by_one (words.signed w a)) ∙ reduced-signed w a h)

pub before_zero_right : (op : Op) (a : Bits) → IsRange a → IsRight (before_zero op) op a a (word a.width 0)
before_zero_right Add a r = at a.width (small a.width a.value (a.value + 0) r.below (omega arith))
before_zero_right Sub a r = at a.width (sub_zero a.width a.value r.below)
before_zero_right Or a r = at a.width (sym (or_zero_r a.value))
before_zero_right Xor a r = at a.width (sym (xor_zero_r a.value))
before_zero_right Shl a r = at a.width (small a.width a.value (a.value * 2 ^ 0) r.below (omega arith))
before_zero_right Lshr a r = at a.width (sym (div-one a.value))
before_zero_right Ashr a r = at a.width (ashr_zero a.width a.value r.below)
before_zero_right Urem a r = refl
before_zero_right Mul a r = at a.width (sym (let e : a.value * 0 ≡ 0 = omega arith in ap (λ n. n % 2 ^ a.width) e ∙ zero-mod (2 ^ a.width)))
before_zero_right And a r = at a.width (sym (and_zero_r a.value))
before_zero_right Ult a r = at 1 (sym (ap words.bit (le-ltb a.value 0 (omega arith))))
before_zero_right Udiv a r = refl
before_zero_right _ a r = tt

pub before_one_right : (op : Op) (a : Bits) → IsRange a → IsRight (before_one op) op a a (word a.width 1)
before_one_right Mul a r = at a.width (small a.width a.value (a.value * 1) r.below (omega arith))
before_one_right Udiv a r = at a.width (sym (div-one a.value))
before_one_right Urem a r = at a.width (sym (mod-one a.value))
before_one_right _ a r = tt

and_ones : (w a : ℕ) → a < 2 ^ w → a ≡ bit_and a (words.all_ones w)
and_ones w a h = sym (and_mask a w ∙ mod-eq_of_lt h)

or_ones : (w a : ℕ) → a < 2 ^ w → words.all_ones w ≡ bit_or a (words.all_ones w)
or_ones w a h = let low = or_lt w a (words.all_ones w) h (let positive = pow_pos w in omega arith) in omega (arith, le_or_r a (words.all_ones w))

pub before_ones_right : (op : Op) (a : Bits) → IsRange a → IsRight (before_ones op) op a a (word a.width (words.all_ones a.width))
before_ones_right And a r = at a.width (and_ones a.width a.value r.below)
before_ones_right Or a r = at a.width (or_ones a.width a.value r.below)
before_ones_right _ a r = tt

reduced_zero : (w : ℕ) → 0 < w → (b : ℕ) → 0 ≡ words.ashr w 0 b
reduced_zero w some b =
    let e : words.signed w 0 ≡ pos 0 = signed_pos w 0 (pow_pos (w - 1)) in
    sym (ap (λ z. words.reduced w (int_div_euclid z (pos (2 ^ b)))) e ∙ ap (λ n. n % 2 ^ w) (zero-div (2 ^ b)) ∙ zero-mod (2 ^ w))

pub after_zero_right : (op : Op) (b : Bits) → IsRange b → IsRight (after_zero op) op b (word b.width 0) b
after_zero_right Add b r = at b.width (small b.width b.value (0 + b.value) r.below (omega arith))
after_zero_right Or b r = at b.width (sym (or_zero_l b.value))
after_zero_right Xor b r = at b.width (sym (xor_zero_l b.value))
after_zero_right Mul b r = at b.width (sym (let e : 0 * b.value ≡ 0 = omega arith in ap (λ n. n % 2 ^ b.width) e ∙ zero-mod (2 ^ b.width)))
after_zero_right And b r = at b.width (sym (and_zero_l b.value))
after_zero_right Urem b r = at b.width
    (elim (eqb_tells b.value 0) [
      | inl z ↦ sym (ap (λ c. cond c 0 (0 % b.value)) z.0)
      | inr n ↦ sym
          (ap (λ c. cond c 0 (0 % b.value)) n.0 ∙ zero-mod b.value)
    ])
after_zero_right Shl b r = at b.width (sym (let e : 0 * 2 ^ b.value ≡ 0 = omega arith in ap (λ n. n % 2 ^ b.width) e ∙ zero-mod (2 ^ b.width)))
after_zero_right Lshr b r = at b.width (sym (zero-div (2 ^ b.value)))
after_zero_right Ashr b r = at b.width (reduced_zero b.width r.some b.value)
after_zero_right _ b r = tt

pub after_one_right : (op : Op) (b : Bits) → IsRange b → IsRight (after_one op) op b (word b.width 1) b
after_one_right Mul b r = at b.width (small b.width b.value (1 * b.value) r.below (omega arith))
after_one_right _ b r = tt

pub after_ones_right : (op : Op) (b : Bits) → IsRange b → IsRight (after_ones op) op b (word b.width (words.all_ones b.width)) b
after_ones_right And b r = at b.width (and_ones b.width b.value r.below ∙ and_comm b.value (words.all_ones b.width))
after_ones_right Or b r = at b.width (or_ones b.width b.value r.below ∙ or_comm b.value (words.all_ones b.width))
after_ones_right Ult b r = at 1 (sym (ap words.bit (le-ltb (words.all_ones b.width) b.value (let low = r.below in omega arith))))
after_ones_right _ b r = tt

-- ---- words of one bit, and of ones

pub zero_of : (n : ℕ) → n < 2 ^ 1 → (n ≡ 1 → ⊥) → n ≡ 0
zero_of zero h not_one = refl
zero_of (suc zero) h not_one = absurd (not_one refl)
zero_of (suc (suc n)) h not_one = let none : ⊥ = omega (arith, h) in absurd none

pub ones_below : (w : ℕ) → words.all_ones w < 2 ^ w
ones_below w = let positive = pow_pos w in omega arith
