-- Comparisons, truths, places and quotients of what words stand for, by the words.
use Rattle.std.proofs.Common.{◌≡◌, ◌≢◌, ℕ, zero, suc, ◌+◌, ◌-◌, ◌*◌, ◌/◌, ◌%◌, ◌^◌, ◌<◌, ◌≤◌, Bool, true, false, ℤ, pos, negsuc, refl, sym, ap, subst}
use Rattle.std.proofs.Common.{◌∙◌, arith, inl, inr}
use Rattle.std.specs.Prelude.{if◌then◌else◌, unsigned_abs, neg_ℤ, ◌+ℤ◌, ◌-ℤ◌, ◌*ℤ◌, nat_eq, nat_lt, nat_le, not, ◌&&◌, ◌||◌, int_lt, int_le, int_div}
use Rattle.std.specs.Prelude.{int_rem, bit_and, bit_or}
use Rattle.std.specs.Ordering.{int_eq}
use Rattle.std.specs.Int.{int_div_euclid}
use Rattle.std.proofs.lemmas.Bool.{cases_lt, lt-ltb, le-ltb}
use Rattle.std.proofs.lemmas.Bool.Decides.{nat_tests}
use Rattle.std.proofs.lemmas.Int.{ints, int_rem_euclid_is}
use Rattle.std.proofs.lemmas.Nat.{pow_pos, mod_below}
use Rattle.std.proofs.lemmas.Grind.{common_steps}
use Rattle.std.proofs.Math.Nat.{mod-eq_of_lt, div-le_self, mod-le}
use Rattle.vg_bits.specs.Words as bits
use Rattle.vg_bits.proofs.Machine.{signed_pos, signed_neg, sub-is, halves}
use Rattle.vg_cint.specs.Formulas.{no, negative, is_minus, magnitude, signed_by, differ, signed_quotient, signed_remainder}
use Rattle.vg_cint.proofs.Reduced.{read, negative_is}

-- ---- one bit

pub no_bit : (b : Bool) → bits.bit (not b) ≡ no (bits.bit b)
no_bit true = refl
no_bit false = refl

pub or_bit : (a b : Bool) → bits.bit (a || b) ≡ bit_or (bits.bit a) (bits.bit b)
or_bit true true = refl
or_bit true false = refl
or_bit false true = refl
or_bit false false = refl

pub and_bit : (a b : Bool) → bits.bit (a && b) ≡ bit_and (bits.bit a) (bits.bit b)
and_bit true true = refl
and_bit true false = refl
and_bit false true = refl
and_bit false false = refl

-- ---- whether a word is 0

some : (m : ℕ) → 0 < m → nat_eq m 0 ≡ false
some m h = grind (arith, nat_tests)

zero_neg : (c x : ℕ) → 0 < x → nat_eq (unsigned_abs (negsuc c)) 0 ≡ nat_eq x 0
zero_neg c x h = some (suc c) (omega arith) ∙ sym (some x h)

pub zero_is : (s : Bool) (w x : ℕ) → x < 2 ^ w → nat_eq (unsigned_abs (read s w x)) 0 ≡ nat_eq x 0
zero_is false w x h = refl
zero_is true w x h =
    let half = pow_pos (w - 1) in
    elim (cases_lt x (2 ^ (w - 1))) [
      | inl low ↦ rw (signed_pos w x low) refl
      | inr high ↦ rw (signed_neg w x high h) (zero_neg (2 ^ w - 1 - x) x (omega arith))
    ]

-- ---- comparisons

less_unsigned : (x y : ℕ) → int_lt (pos x) (pos y) ≡ nat_lt x y
less_unsigned x y = refl

pub at_most : (x y : ℤ) → int_le x y ≡ not (int_lt y x)
at_most x y = grind (arith, ints)

same_pos : (x y : ℕ) → int_eq (pos x) (pos y) ≡ nat_eq x y
same_pos x y = grind (arith, ints, nat_tests)

same_neg : (m x y : ℕ) → x < m → y < m → int_eq (negsuc (m - 1 - x)) (negsuc (m - 1 - y)) ≡ nat_eq x y
same_neg m x y h k = grind (arith, ints, nat_tests)

not_same : (x y c : ℕ) → x < y → int_eq (pos x) (negsuc c) ≡ nat_eq x y
not_same x y c h = grind (arith, ints, nat_tests)

nor_same : (x y c : ℕ) → y < x → int_eq (negsuc c) (pos y) ≡ nat_eq x y
nor_same x y c h = grind (arith, ints, nat_tests)

pub equal_is : (s : Bool) (w x y : ℕ) → x < 2 ^ w → y < 2 ^ w → int_eq (read s w x) (read s w y) ≡ nat_eq x y
equal_is false w x y h k = same_pos x y
equal_is true w x y h k =
    elim (cases_lt x (2 ^ (w - 1))) [
      | inl low ↦ elim (cases_lt y (2 ^ (w - 1))) [
        | inl small ↦ rw (signed_pos w x low, signed_pos w y small) (same_pos x y)
        | inr large ↦ rw (signed_pos w x low, signed_neg w y large k) (not_same x y (2 ^ w - 1 - y) (omega arith))
      ]
      | inr high ↦ elim (cases_lt y (2 ^ (w - 1))) [
        | inl small ↦ rw (signed_neg w x high h, signed_pos w y small) (nor_same x y (2 ^ w - 1 - x) (omega arith))
        | inr large ↦ rw (signed_neg w x high h, signed_neg w y large k) (same_neg (2 ^ w) x y h k)
      ]
    ]

-- ---- the places of a shift

pub places_is : (s : Bool) (v y : ℕ) → y < 2 ^ v → int_le (pos 0) (read s v y) ≡ true → unsigned_abs (read s v y) ≡ y
places_is false v y h l = refl
places_is true v y h l =
    elim (cases_lt y (2 ^ (v - 1))) [
      | inl low ↦ rw (signed_pos v y low) refl
      | inr high ↦ (let l2 : int_le (pos 0) (negsuc (2 ^ v - 1 - y)) ≡ true = subst (λ z. int_le (pos 0) z ≡ true) (signed_neg v y high h) l in cc)
    ]

pub small_word : (w q : ℕ) → q < 2 ^ w → bits.reduced w (pos q) ≡ q
small_word w q h = mod-eq_of_lt h

pub moved_is : (w x n : ℕ) → x < 2 ^ w → bits.reduced w (int_div_euclid (pos x) (pos (2 ^ n))) ≡ bits.lshr x n
moved_is w x n h =
    let less = div-le_self x (2 ^ n) in
    let below : x / 2 ^ n < 2 ^ w = omega arith in
    small_word w (x / 2 ^ n) below

-- ---- quotients and remainders

pub some_word : (y : ℕ) → nat_eq y 0 ≡ false → 0 < y
some_word zero h = cc
some_word (suc y) h = omega arith

udiv_some : (w a b : ℕ) → 0 < b → bits.udiv w a b ≡ a / b
udiv_some w a b h = ap (λ (c : Bool). if c then bits.all_ones w else a / b) (some b h)

urem_some : (a b : ℕ) → 0 < b → bits.urem a b ≡ a % b
urem_some a b h = ap (λ (c : Bool). if c then a else a % b) (some b h)

pub unsigned_quotient : (w x y : ℕ) → x < 2 ^ w → 0 < y → bits.reduced w (int_div (pos x) (pos y)) ≡ bits.udiv w x y
unsigned_quotient w x y h s =
    let less = div-le_self x y in
    let below : x / y < 2 ^ w = omega arith in
    small_word w (x / y) below ∙ sym (udiv_some w x y s)

pub unsigned_remainder : (w x y : ℕ) → x < 2 ^ w → 0 < y → bits.reduced w (int_rem (pos x) (pos y)) ≡ bits.urem x y
unsigned_remainder w x y h s =
    let less = mod-le x y in
    let below : x % y < 2 ^ w = omega arith in
    small_word w (x % y) below ∙ sym (urem_some x y s)

minus_quotient : (w a b : ℕ) → a < 2 ^ w → 0 < b → bits.reduced w (neg_ℤ (pos (a / b))) ≡ negative w (bits.udiv w a b)
minus_quotient w a b h s =
    let less = div-le_self a b in
    let below : a / b < 2 ^ w = omega arith in
    negative_is false w (a / b) below ∙ ap (negative w) (sym (udiv_some w a b s))

minus_remainder : (w a b : ℕ) → a < 2 ^ w → 0 < b → bits.reduced w (neg_ℤ (pos (a % b))) ≡ negative w (bits.urem a b)
minus_remainder w a b h s =
    let less = mod-le a b in
    let below : a % b < 2 ^ w = omega arith in
    negative_is false w (a % b) below ∙ ap (negative w) (sym (urem_some a b s))

zero_reads : (w : ℕ) → bits.signed w 0 ≡ pos 0
zero_reads w = signed_pos w 0 (pow_pos (w - 1))

below_none : (x : ℕ) → int_lt (pos x) (pos 0) ≡ false
below_none x = grind (arith, nat_tests)

minus_low : (w x : ℕ) → x < 2 ^ (w - 1) → is_minus w x ≡ false
minus_low w x h = (λ j. nat_eq (bits.bit (int_lt (signed_pos w x h j) (zero_reads w j))) 1) ∙ ap (λ (b : Bool). nat_eq (bits.bit b) 1) (below_none x)

minus_high : (w x : ℕ) → 2 ^ (w - 1) ≤ x → x < 2 ^ w → is_minus w x ≡ true
minus_high w x h k = (λ j. nat_eq (bits.bit (int_lt (signed_neg w x h k j) (zero_reads w j))) 1)

magnitude_low : (w x : ℕ) → x < 2 ^ (w - 1) → magnitude w x ≡ x
magnitude_low w x h = ap (λ (b : Bool). if b then negative w x else x) (minus_low w x h)

magnitude_high : (w x : ℕ) → 2 ^ (w - 1) ≤ x → x < 2 ^ w → magnitude w x ≡ suc (2 ^ w - 1 - x)
magnitude_high w x h k =
    let some_half = pow_pos (w - 1) in
    let below : 0 + (2 ^ w - x) < 2 ^ w = omega arith in
    let is : 0 + (2 ^ w - x) ≡ suc (2 ^ w - 1 - x) = omega arith in
    ap (λ (b : Bool). if b then negative w x else x) (minus_high w x h k) ∙ sub-is w 0 x (omega arith) ∙ mod-eq_of_lt below ∙ is

quotient_with : (w x y a b : ℕ) (m n : Bool) → is_minus w x ≡ m → is_minus w y ≡ n → magnitude w x ≡ a → magnitude w y ≡ b →
    signed_quotient w x y ≡ signed_by (differ m n) w (bits.udiv w a b)
quotient_with w x y a b m n h k p q = (λ j. signed_by (differ (h j) (k j)) w (bits.udiv w (p j) (q j)))

remainder_with : (w x y a b : ℕ) (m : Bool) → is_minus w x ≡ m → magnitude w x ≡ a → magnitude w y ≡ b → signed_remainder w x y ≡ signed_by m w (bits.urem a b)
remainder_with w x y a b m h p q = (λ j. signed_by (h j) w (bits.urem (p j) (q j)))

pub signed_quotient_is : (w x y : ℕ) → x < 2 ^ w → y < 2 ^ w → 0 < y → bits.reduced w (int_div (bits.signed w x) (bits.signed w y)) ≡ signed_quotient w x y
signed_quotient_is w x y h k s =
    let half = pow_pos (w - 1) in
    let c = 2 ^ w - 1 - x in
    let d = 2 ^ w - 1 - y in
    elim (cases_lt x (2 ^ (w - 1))) [
      | inl low ↦ elim (cases_lt y (2 ^ (w - 1))) [
        | inl small ↦
            (λ j. bits.reduced w (int_div (signed_pos w x low j) (signed_pos w y small j))) ∙ unsigned_quotient w x y h s
            ∙ sym (quotient_with w x y x y false false (minus_low w x low) (minus_low w y small) (magnitude_low w x low) (magnitude_low w y small))
        | inr large ↦
            (λ j. bits.reduced w (int_div (signed_pos w x low j) (signed_neg w y large k j))) ∙ minus_quotient w x (suc d) h (omega arith)
            ∙ sym (quotient_with w x y x (suc d) false true (minus_low w x low) (minus_high w y large k) (magnitude_low w x low) (magnitude_high w y large k))
      ]
      | inr high ↦ elim (cases_lt y (2 ^ (w - 1))) [
        | inl small ↦
            (λ j. bits.reduced w (int_div (signed_neg w x high h j) (signed_pos w y small j))) ∙ minus_quotient w (suc c) y (omega arith) s
            ∙ sym (quotient_with w x y (suc c) y true false (minus_high w x high h) (minus_low w y small) (magnitude_high w x high h) (magnitude_low w y small))
        | inr large ↦
            (λ j. bits.reduced w (int_div (signed_neg w x high h j) (signed_neg w y large k j)))
            ∙ unsigned_quotient w (suc c) (suc d) (omega arith) (omega arith)
            ∙ sym (quotient_with w x y (suc c) (suc d) true true (minus_high w x high h) (minus_high w y large k) (magnitude_high w x high h)
            (magnitude_high w y large k))
      ]
    ]

pub signed_remainder_is : (w x y : ℕ) → x < 2 ^ w → y < 2 ^ w → 0 < y → bits.reduced w (int_rem (bits.signed w x) (bits.signed w y)) ≡ signed_remainder w x y
signed_remainder_is w x y h k s =
    let half = pow_pos (w - 1) in
    let c = 2 ^ w - 1 - x in
    let d = 2 ^ w - 1 - y in
    elim (cases_lt x (2 ^ (w - 1))) [
      | inl low ↦ elim (cases_lt y (2 ^ (w - 1))) [
        | inl small ↦
            (λ j. bits.reduced w (int_rem (signed_pos w x low j) (signed_pos w y small j))) ∙ unsigned_remainder w x y h s
            ∙ sym (remainder_with w x y x y false (minus_low w x low) (magnitude_low w x low) (magnitude_low w y small))
        | inr large ↦
            (λ j. bits.reduced w (int_rem (signed_pos w x low j) (signed_neg w y large k j))) ∙ unsigned_remainder w x (suc d) h (omega arith)
            ∙ sym (remainder_with w x y x (suc d) false (minus_low w x low) (magnitude_low w x low) (magnitude_high w y large k))
      ]
      | inr high ↦ elim (cases_lt y (2 ^ (w - 1))) [
        | inl small ↦
            (λ j. bits.reduced w (int_rem (signed_neg w x high h j) (signed_pos w y small j))) ∙ minus_remainder w (suc c) y (omega arith) s
            ∙ sym (remainder_with w x y (suc c) y true (minus_high w x high h) (magnitude_high w x high h) (magnitude_low w y small))
        | inr large ↦
            (λ j. bits.reduced w (int_rem (signed_neg w x high h j) (signed_neg w y large k j))) ∙ minus_remainder w (suc c) (suc d) (omega arith) (omega arith)
            ∙ sym (remainder_with w x y (suc c) (suc d) true (minus_high w x high h) (magnitude_high w x high h) (magnitude_high w y large k))
      ]
    ]
