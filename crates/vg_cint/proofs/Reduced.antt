-- What the words of an operator's whole-number result are, by the words of its operands.
use Rattle.std.proofs.Common.{◌≡◌, ℕ, zero, suc, ◌+◌, ◌-◌, ◌*◌, ◌/◌, ◌%◌, ◌^◌, ◌<◌, ◌≤◌, Bool, true, false, ℤ, pos, negsuc, refl, sym, ap, subst, ◌∙◌}
use Rattle.std.proofs.Common.{arith, inl, inr}
use Rattle.std.specs.Prelude.{if◌then◌else◌, unsigned_abs, neg_ℤ, ◌+ℤ◌, ◌-ℤ◌, ◌*ℤ◌, nat_eq, nat_lt, not, int_lt, int_le}
use Rattle.std.specs.Ordering.{int_eq}
use Rattle.std.proofs.lemmas.Bool.{cases_lt, lt-ltb, le-ltb}
use Rattle.std.proofs.lemmas.Int.{ints, int_rem_euclid_is}
use Rattle.std.proofs.lemmas.Nat.{pow_pos, mod_below}
use Rattle.std.proofs.Math.Nat.{mod-eq_of_lt}
use Rattle.vg_bits.specs.Words as bits
use Rattle.vg_bits.proofs.Machine.{signed_pos, signed_neg, sub-is, halves}

-- ---- what a word stands for

abbrev pub read : (signed : Bool) → (w x : ℕ) → ℤ
read signed w x = if signed then bits.signed w x else pos x

-- how many times 2 ^ w less that is than the word
abbrev pub less : (signed : Bool) → (w x : ℕ) → ℕ
less signed w x = if signed then (if nat_lt x (2 ^ (w - 1)) then 0 else 1) else 0

back : (n a : ℕ) → a < n → negsuc (n - 1 - a) +ℤ pos n ≡ pos a
back n a h = grind (arith, ints)

none_at : (x n : ℕ) → pos x +ℤ pos (0 * n) ≡ pos x
none_at x n = let e : 0 * n ≡ 0 = omega arith in ap (λ k. pos x +ℤ pos k) e ∙ grind (arith, ints)

pub up : (signed : Bool) (w x : ℕ) → x < 2 ^ w → read signed w x +ℤ pos (less signed w x * 2 ^ w) ≡ pos x
up false w x h = none_at x (2 ^ w)
up true w x h =
    elim (cases_lt x (2 ^ (w - 1))) [
      | inl low ↦ rw (lt-ltb x (2 ^ (w - 1)) low) (none_at x (2 ^ w))
      | inr high ↦
          (let e : pos x -ℤ pos (2 ^ w) ≡ negsuc (2 ^ w - 1 - x) = omega (arith, ints) in
          let one : 1 * 2 ^ w ≡ 2 ^ w = omega arith in
          rw (le-ltb x (2 ^ (w - 1)) high, e, one) (back (2 ^ w) x h))
    ]

pub reduced_by : (w k n : ℕ) (z : ℤ) → z +ℤ pos (k * 2 ^ w) ≡ pos n → bits.reduced w z ≡ n % 2 ^ w
reduced_by w k n z e = ap unsigned_abs (int_rem_euclid_is z (pos (2 ^ w)) (2 ^ w) k n (pow_pos w) refl e)

-- ---- sums

sums : (x y : ℤ) (p q a b : ℕ) → x +ℤ pos p ≡ pos a → y +ℤ pos q ≡ pos b → (x +ℤ y) +ℤ pos (p + q) ≡ pos (a + b)
sums x y p q a b h k = grind (arith, ints)

both : (j k m : ℕ) → (j + k) * m ≡ j * m + k * m
both j k m = omega arith

pub sum_is : (s : Bool) (w x y : ℕ) → x < 2 ^ w → y < 2 ^ w → bits.reduced w (read s w x +ℤ read s w y) ≡ bits.add w x y
sum_is s w x y h k =
    reduced_by w (less s w x + less s w y) (x + y) (read s w x +ℤ read s w y)
    (ap (λ n. (read s w x +ℤ read s w y) +ℤ pos n) (both (less s w x) (less s w y) (2 ^ w))
    ∙ sums (read s w x) (read s w y) (less s w x * 2 ^ w) (less s w y * 2 ^ w) x y (up s w x h) (up s w y k))

-- ---- differences

differences : (x y : ℤ) (p q a b m : ℕ) → x +ℤ pos p ≡ pos a → y +ℤ pos q ≡ pos b → q ≤ m → b ≤ m → (x -ℤ y) +ℤ pos (p + (m - q)) ≡ pos (a + (m - b))
differences x y p q a b m h k l n = grind (arith, ints)

less_small : (s : Bool) (w x : ℕ) → less s w x ≤ 1
less_small false w x = omega arith
less_small true w x = elim (cases_lt x (2 ^ (w - 1))) [
  | inl low ↦ rw (lt-ltb x (2 ^ (w - 1)) low) (omega arith)
  | inr high ↦
      rw (le-ltb x (2 ^ (w - 1)) high) (omega arith)
]

rest_of : (j k m : ℕ) → k ≤ 1 → (j + (1 - k)) * m ≡ j * m + (m - k * m)
rest_of j zero m h = omega arith
rest_of j (suc zero) m h = omega arith
rest_of j (suc (suc k)) m h = absurd (omega arith)

once : (k m : ℕ) → k ≤ 1 → k * m ≤ m
once zero m h = omega arith
once (suc zero) m h = omega arith
once (suc (suc k)) m h = absurd (omega arith)

pub difference_is : (s : Bool) (w x y : ℕ) → x < 2 ^ w → y < 2 ^ w → bits.reduced w (read s w x -ℤ read s w y) ≡ bits.sub w x y
difference_is s w x y h k =
    let below : y ≤ 2 ^ w = omega arith in
    reduced_by w (less s w x + (1 - less s w y)) (x + (2 ^ w - y)) (read s w x -ℤ read s w y)
    (ap (λ n. (read s w x -ℤ read s w y) +ℤ pos n) (rest_of (less s w x) (less s w y) (2 ^ w) (less_small s w y))
    ∙ differences (read s w x) (read s w y) (less s w x * 2 ^ w) (less s w y * 2 ^ w) x y (2 ^ w) (up s w x h) (up s w y k)
    (once (less s w y) (2 ^ w) (less_small s w y)) below)
    ∙ sym (sub-is w x y below)

minus : (z : ℤ) → neg_ℤ z ≡ pos 0 -ℤ z
minus z = grind (arith, ints)

pub negative_is : (s : Bool) (w x : ℕ) → x < 2 ^ w → bits.reduced w (neg_ℤ (read s w x)) ≡ bits.sub w 0 x
negative_is s w x h =
    let below : x ≤ 2 ^ w = omega arith in
    let zero_is : pos 0 +ℤ pos (0 * 2 ^ w) ≡ pos 0 = none_at 0 (2 ^ w) in
    let e : neg_ℤ (read s w x) ≡ pos 0 -ℤ read s w x = minus (read s w x) in
    ap (bits.reduced w) e
    ∙ reduced_by w (0 + (1 - less s w x)) (0 + (2 ^ w - x)) (pos 0 -ℤ read s w x)
    (ap (λ n. (pos 0 -ℤ read s w x) +ℤ pos n) (rest_of 0 (less s w x) (2 ^ w) (less_small s w x))
    ∙ differences (pos 0) (read s w x) (0 * 2 ^ w) (less s w x * 2 ^ w) 0 x (2 ^ w) zero_is (up s w x h) (once (less s w x) (2 ^ w) (less_small s w x)) below)
    ∙ sym (sub-is w 0 x below)

-- ---- products by a power of two

scaled_pos : (a p n m : ℕ) → pos a +ℤ pos p ≡ pos n → a * m + p * m ≡ n * m
scaled_pos a p n m e = let s : a + p ≡ n = grind (arith, ints) in sym (both a p m) ∙ ap (λ k. k * m) s

scaled_neg : (a p n m : ℕ) → negsuc a +ℤ pos p ≡ pos n → p * m ≡ n * m + suc a * m
scaled_neg a p n m e = let s : p ≡ n + suc a = grind (arith, ints) in ap (λ k. k * m) s ∙ both n (suc a) m

taken : (a n : ℕ) → neg_ℤ (pos a) +ℤ pos (n + a) ≡ pos n
taken a n = grind (arith, ints)

scaled : (z : ℤ) (p n m : ℕ) → z +ℤ pos p ≡ pos n → (z *ℤ pos m) +ℤ pos (p * m) ≡ pos (n * m)
scaled (pos a) p n m e = ap pos (scaled_pos a p n m e)
scaled (negsuc a) p n m e = ap (λ k. neg_ℤ (pos (suc a * m)) +ℤ pos k) (scaled_neg a p n m e) ∙ taken (suc a * m) (n * m)

swapped : (k m n : ℕ) → k * m * n ≡ k * n * m
swapped k m n = let e : k * m * n ≡ k * n * m = omega arith in e

pub shifted_is : (s : Bool) (w x n : ℕ) → x < 2 ^ w → bits.reduced w (read s w x *ℤ pos (2 ^ n)) ≡ bits.shl w x n
shifted_is s w x n h =
    reduced_by w (less s w x * 2 ^ n) (x * 2 ^ n) (read s w x *ℤ pos (2 ^ n))
    (ap (λ k. (read s w x *ℤ pos (2 ^ n)) +ℤ pos k) (swapped (less s w x) (2 ^ n) (2 ^ w)) ∙ scaled (read s w x) (less s w x * 2 ^ w) x (2 ^ n) (up s w x h))

-- ---- products

right_part : (x c y : ℕ) → x * (suc c + y) ≡ x * y + x * suc c
right_part x c y = omega arith

left_part : (y c x : ℕ) → y * (suc c + x) ≡ x * y + suc c * y
left_part y c x = omega arith

quarters : (c d e : ℕ) → suc c * suc d + e * (suc c + (suc d + e)) ≡ (suc d + e) * (e + suc c)
quarters c d e = omega arith

right_minus : (x c y m : ℕ) → m ≡ suc c + y → (pos x *ℤ negsuc c) +ℤ pos (x * m) ≡ pos (x * y)
right_minus x c y m e = ap (λ k. (pos x *ℤ negsuc c) +ℤ pos k) (ap (λ n. x * n) e ∙ right_part x c y) ∙ taken (x * suc c) (x * y)

left_minus : (c y x m : ℕ) → m ≡ suc c + x → (negsuc c *ℤ pos y) +ℤ pos (y * m) ≡ pos (x * y)
left_minus c y x m e = ap (λ k. (negsuc c *ℤ pos y) +ℤ pos k) (ap (λ n. y * n) e ∙ left_part y c x) ∙ taken (suc c * y) (x * y)

two_minus : (c d e x y m : ℕ) → m ≡ suc c + (suc d + e) → x ≡ suc d + e → y ≡ e + suc c → (negsuc c *ℤ negsuc d) +ℤ pos (e * m) ≡ pos (x * y)
two_minus c d e x y m h k l = ap (λ n. pos (suc c * suc d + e * n)) h ∙ ap pos (quarters c d e) ∙ sym (λ j. pos (k j * l j))

plain : (x y m : ℕ) → (pos x *ℤ pos y) +ℤ pos (0 * m) ≡ pos (x * y)
plain x y m = none_at (x * y) m

signed_product : (w x y : ℕ) → 0 < w → x < 2 ^ w → y < 2 ^ w → bits.reduced w (bits.signed w x *ℤ bits.signed w y) ≡ bits.mul w x y
signed_product w x y some h k =
    let m = 2 ^ w in
    let half : 2 ^ w ≡ 2 ^ (w - 1) + 2 ^ (w - 1) = halves w some in
    let c = m - 1 - x in
    let d = m - 1 - y in
    elim (cases_lt x (2 ^ (w - 1))) [
      | inl low ↦ elim (cases_lt y (2 ^ (w - 1))) [
        | inl small ↦ rw (signed_pos w x low, signed_pos w y small) (reduced_by w 0 (x * y) (pos x *ℤ pos y) (plain x y m))
        | inr large ↦ rw (signed_pos w x low, signed_neg w y large k) (reduced_by w x (x * y) (pos x *ℤ negsuc d) (right_minus x d y m (omega arith)))
      ]
      | inr high ↦ elim (cases_lt y (2 ^ (w - 1))) [
        | inl small ↦ rw (signed_neg w x high h, signed_pos w y small) (reduced_by w y (x * y) (negsuc c *ℤ pos y) (left_minus c y x m (omega arith)))
        | inr large ↦ rw (signed_neg w x high h, signed_neg w y large k)
            (reduced_by w (x + y - m) (x * y) (negsuc c *ℤ negsuc d) (two_minus c d (x + y - m) x y m (omega arith) (omega arith) (omega arith)))
      ]
    ]

pub product_is : (s : Bool) (w x y : ℕ) → 0 < w → x < 2 ^ w → y < 2 ^ w → bits.reduced w (read s w x *ℤ read s w y) ≡ bits.mul w x y
product_is true w x y some h k = signed_product w x y some h k
product_is false w x y some h k = reduced_by w 0 (x * y) (pos x *ℤ pos y) (plain x y (2 ^ w))
