-- Operations of the machine at 64 bits against the formulas at a smaller width.
use Rattle.std.proofs.Common.{◌≡◌, ℕ, suc, ◌+◌, ◌-◌, ◌*◌, ◌/◌, ◌%◌, ◌^◌, ◌<◌, ◌≤◌, min, refl, sym, ap, subst, ◌∙◌, arith, inl, inr}
use Rattle.std.specs.Prelude.{ℤ, pos, negsuc, ◌-ℤ◌, unsigned_abs, FitsSigned}
use Rattle.std.specs.Int.{w64, cast_unsigned, cast_signed, int_div_euclid}
use Rattle.std.specs.Int.Signed.{shr_z, mag_shr}
use Rattle.std.proofs.Math.Nat.{div-eq_of_lt, min-eq_left, min-eq_right, add-mul-mod_self_right}
use Rattle.std.proofs.Math.Pow.{pow_mono}
use Rattle.std.proofs.Math.Facts.{to_z-neg}
use Rattle.std.proofs.lemmas.Bool.{cases_lt, lt-ltb, le-ltb}
use Rattle.std.proofs.lemmas.Int.{ints, int_rem_euclid_is, to_z_pos, to_z-of_z}
use Rattle.std.proofs.lemmas.Nat.{pow_pos, pow-add, mul-add-lt, mod_below, mod_low, shr_split, shr_high, shl_whole, shl_below, shl-shr, div_below}
use Rattle.vg_bits.specs.Words.{reduced, signed, sub}
use Rattle.vg_bits.proofs.Masks.{split_64, mod_64}

-- ---- differences

-- a difference is a sum with what is left up to 2 ^ w
pub sub-is : (w a b : ℕ) → b ≤ 2 ^ w → sub w a b ≡ (a + (2 ^ w - b)) % 2 ^ w
sub-is w a b h =
    ap unsigned_abs (int_rem_euclid_is (pos a -ℤ pos b) (pos (2 ^ w)) (2 ^ w) 1 (a + (2 ^ w - b)) (pow_pos w) refl (omega (arith, ints)))

more_at : (a b w c : ℕ) → b < w → a + (w * (c + 1) - b) ≡ a + (w - b) + c * w
more_at a b w c p = omega arith

more : (a b w j : ℕ) → b < w → 0 < j → a + (w * j - b) ≡ a + (w - b) + (j - 1) * w
more a b w j p q = let e : j ≡ (j - 1) + 1 = omega arith in ap (λ n. a + (w * n - b)) e ∙ more_at a b w (j - 1) p

pub wrapped_difference : (w a b : ℕ) → w ≤ 64 → b < 2 ^ w → (a + (2 ^ 64 - b)) % 2 ^ 64 % 2 ^ w ≡ sub w a b
wrapped_difference w a b h lt =
    let e : a + (2 ^ 64 - b) ≡ (a + (2 ^ w - b)) + (2 ^ (64 - w) - 1) * 2 ^ w =
    ap (λ n. a + (n - b)) (split_64 w h) ∙ more a b (2 ^ w) (2 ^ (64 - w)) lt (pow_pos (64 - w)) in
    mod_64 w (a + (2 ^ 64 - b)) h
    ∙ ap (λ n. n % 2 ^ w) e
    ∙ add-mul-mod_self_right (a + (2 ^ w - b)) (2 ^ (64 - w) - 1) (2 ^ w)
    ∙ sym (sub-is w a b (omega arith))

-- ---- integers to words

complement_at : (q d m r : ℕ) → r < m → (q + 1 + d) * m - suc (q * m + r) ≡ d * m + (m - 1 - r)
complement_at q d m r h = omega arith

-- -(n + 1) modulo m, where m divides a larger number j * m
complement : (n j w : ℕ) → n < j * 2 ^ w → (j * 2 ^ w - suc n) % 2 ^ w ≡ 2 ^ w - 1 - n % 2 ^ w
complement n j w h =
    let m = 2 ^ w in
    let q = n / m in
    let r = n % m in
    let d = j - q - 1 in
    let r_below : r < m = mod_below n m (pow_pos w) in
    let q_below : q < j = div_below n m j (pow_pos w) h in
    let is_j : j ≡ q + 1 + d = omega arith in
    let is_n : n ≡ q * m + r = sym (shr_split n w) in
    let e : j * m - suc n ≡ d * m + (m - 1 - r) =
    ap (λ k. k * m - suc n) is_j ∙ ap (λ k. (q + 1 + d) * m - suc k) is_n ∙ complement_at q d m r r_below in
    ap (λ k. k % m) e ∙ mod_low d w (m - 1 - r) (omega arith)

-- the low bits of a signed machine word
pub low_bits_of_signed : (w : ℕ) (z : ℤ) → w ≤ 64 → FitsSigned w64 z → cast_unsigned w64 z % 2 ^ w ≡ reduced w z
low_bits_of_signed w (pos n) h fits = refl
low_bits_of_signed w (negsuc n) h fits =
    let e : 2 ^ 64 ≡ 2 ^ (64 - w) * 2 ^ w = split_64 w h ∙ (let c : 2 ^ w * 2 ^ (64 - w) ≡ 2 ^ (64 - w) * 2 ^ w = omega arith in c) in
    let below : n < 2 ^ (64 - w) * 2 ^ w = omega (arith, e, fits.sfits) in
    ap (λ k. (k - suc n) % 2 ^ w) e ∙ complement n (2 ^ (64 - w)) w below

-- ---- words to integers

pub halves : (w : ℕ) → 0 < w → 2 ^ w ≡ 2 ^ (w - 1) + 2 ^ (w - 1)
halves w h = let e : w ≡ (w - 1) + 1 = omega arith in let d : 2 ^ w ≡ 2 ^ (w - 1) * 2 ^ 1 = ap (λ n. 2 ^ n) e ∙ pow-add 2 (w - 1) 1 in omega (arith, d)

pub signed_pos : (w a : ℕ) → a < 2 ^ (w - 1) → signed w a ≡ pos a
signed_pos w a h = rw (lt-ltb a (2 ^ (w - 1)) h) refl

pub signed_neg : (w a : ℕ) → 2 ^ (w - 1) ≤ a → a < 2 ^ w → signed w a ≡ negsuc (2 ^ w - 1 - a)
signed_neg w a h below =
    let e : pos a -ℤ pos (2 ^ w) ≡ negsuc (2 ^ w - 1 - a) = omega (arith, ints) in
    rw (le-ltb a (2 ^ (w - 1)) h) e

from_top_at : (a c k : ℕ) → 0 < k → a * k ≡ (a + c + 1) * k - suc (c * k + (k - 1))
from_top_at a c k h = omega arith

-- a word at the top of m * k: m * k less what is left above it
from_top : (m a c k : ℕ) → m ≡ a + c + 1 → 0 < k → a * k ≡ m * k - suc (c * k + (k - 1))
from_top m a c k e h = from_top_at a c k h ∙ sym (ap (λ n. n * k - suc (c * k + (k - 1))) e)

left_below_at : (c k h : ℕ) → c < h → 0 < k → c * k + (k - 1) < h * k
left_below_at c k h p q = omega (arith, mul-add-lt c k (k - 1) h p (omega arith))

-- shifted to the top and back
shifted_pos : (w a : ℕ) → 0 < w → w ≤ 64 → a < 2 ^ (w - 1) → shr_z (cast_signed w64 (a * 2 ^ (64 - w))) (2 ^ (64 - w)) ≡ pos a
shifted_pos w a some h lt =
    let k = 64 - w in
    let width : w - 1 + k ≡ 63 = omega arith in
    let below : a * 2 ^ k < 2 ^ 63 = subst (λ n. a * 2 ^ k < 2 ^ n) width (shl_below a (w - 1) k lt) in
    rw (to_z_pos w64 (a * 2 ^ k) below) (ap pos (shl-shr a k))

shifted_neg : (w a : ℕ) → 0 < w → w ≤ 64 → 2 ^ (w - 1) ≤ a → a < 2 ^ w → shr_z (cast_signed w64 (a * 2 ^ (64 - w))) (2 ^ (64 - w)) ≡ negsuc (2 ^ w - 1 - a)
shifted_neg w a some h ge lt =
    let k = 64 - w in
    let c = 2 ^ w - 1 - a in
    let rest = c * 2 ^ k + (2 ^ k - 1) in
    let is_m : 2 ^ w ≡ a + c + 1 = omega arith in
    let half : 2 ^ w ≡ 2 ^ (w - 1) + 2 ^ (w - 1) = halves w some in
    let c_below : c < 2 ^ (w - 1) = omega arith in
    let width : w - 1 + k ≡ 63 = omega arith in
    let rest_below : rest < 2 ^ 63 =
    subst (λ n. rest < n) (sym (pow-add 2 (w - 1) k) ∙ ap (λ n. 2 ^ n) width) (left_below_at c (2 ^ k) (2 ^ (w - 1)) c_below (pow_pos k)) in
    let e : a * 2 ^ k ≡ 2 ^ 64 - suc rest = from_top (2 ^ w) a c (2 ^ k) is_m (pow_pos k) ∙ sym (ap (λ n. n - suc rest) (split_64 w h)) in
    let is_top : cast_signed w64 (a * 2 ^ k) ≡ negsuc rest = ap (cast_signed w64) e ∙ to_z-neg w64 rest rest_below in
    ap (λ z. shr_z z (2 ^ k)) is_top ∙ ap negsuc (shr_high c k (2 ^ k - 1) (omega (arith, pow_pos k)))

pub signed_is : (w a : ℕ) → 0 < w → w ≤ 64 → a < 2 ^ w → shr_z (cast_signed w64 (a * 2 ^ (64 - w) % 2 ^ 64)) (2 ^ (64 - w)) ≡ signed w a
signed_is w a some h lt =
    let whole : a * 2 ^ (64 - w) % 2 ^ 64 ≡ a * 2 ^ (64 - w) = shl_whole a w (64 - w) 64 lt (omega arith) in
    ap (λ n. shr_z (cast_signed w64 n) (2 ^ (64 - w))) whole
    ∙ elim (cases_lt a (2 ^ (w - 1))) [
      | inl below ↦ shifted_pos w a some h below ∙ sym (signed_pos w a below)
      | inr above ↦ shifted_neg w a some h above lt ∙ sym (signed_neg w a above lt)
    ]

fits_shr : (z : ℤ) (m : ℕ) → FitsSigned w64 z → FitsSigned w64 (shr_z z m)
fits_shr z m fits = record { sfits = omega (arith, mag_shr z m, fits.sfits) }

-- what the code computes, with its readings of signed bits and back
pub signed_back : (w a : ℕ) (x : ℤ) → 0 < w → w ≤ 64 → a < 2 ^ w → FitsSigned w64 x → x ≡ cast_signed w64 (a * 2 ^ (64 - w) % 2 ^ 64) →
    cast_signed w64 (cast_unsigned w64 (shr_z (cast_signed w64 (cast_unsigned w64 x)) (2 ^ (64 - w)))) ≡ signed w a
signed_back w a x some h lt fits e =
    rw (to_z-of_z w64 x fits, to_z-of_z w64 (shr_z x (2 ^ (64 - w))) (fits_shr x (2 ^ (64 - w)) fits))
    (ap (λ z. shr_z z (2 ^ (64 - w))) e ∙ signed_is w a some h lt)

-- ---- shifts with the sign

-- a shift by 63 leaves what any longer one leaves
far : (n b : ℕ) → n < 2 ^ 63 → n / 2 ^ min b 63 ≡ n / 2 ^ b
far n b h =
    elim (cases_lt b 63) [
      | inl below ↦ ap (λ k. n / 2 ^ k) (min-eq_left (omega arith))
      | inr above ↦
          let l : n < 2 ^ b = omega (arith, pow_mono above) in
          ap (λ k. n / 2 ^ k) (min-eq_right above) ∙ div-eq_of_lt h ∙ sym (div-eq_of_lt l)
    ]

pub floored : (z : ℤ) (b : ℕ) → FitsSigned w64 z → shr_z z (2 ^ min b 63) ≡ int_div_euclid z (pos (2 ^ b))
floored (pos n) b fits = ap pos (far n b fits.sfits)
floored (negsuc n) b fits = ap negsuc (far n b fits.sfits)

pub shifted_back : (z : ℤ) (b k : ℕ) → FitsSigned w64 z → k ≡ min b 63 →
    cast_signed w64 (cast_unsigned w64 (shr_z (cast_signed w64 (cast_unsigned w64 z)) (2 ^ k))) ≡ int_div_euclid z (pos (2 ^ b))
shifted_back z b k fits e =
    rw (to_z-of_z w64 z fits, to_z-of_z w64 (shr_z z (2 ^ k)) (fits_shr z (2 ^ k) fits))
    (ap (λ n. shr_z z (2 ^ n)) e ∙ floored z b fits)
