-- Powers of two and masks at widths up to 64.
use Rattle.std.proofs.Common.{◌≡◌, ℕ, ◌+◌, ◌-◌, ◌*◌, ◌/◌, ◌%◌, ◌^◌, ◌<◌, ◌≤◌, sym, ap, ◌∙◌, arith}
use Rattle.std.specs.Prelude.{bit_and, bit_or}
use Rattle.std.proofs.Math.Nat.{div-eq_of_lt, mul-mod_left}
use Rattle.std.proofs.Math.Pow.{mod-mod-pow, pow_mono}
use Rattle.std.proofs.lemmas.Nat.{pow_pos, pow-add, and_mask, or_shifted, shl_whole, mul-add-lt, mod_below}
use Rattle.std.proofs.lemmas.Nat.Bits.{ones_shr}

pub split_64 : (w : ℕ) → w ≤ 64 → 2 ^ 64 ≡ 2 ^ w * 2 ^ (64 - w)
split_64 w h = let e : 64 ≡ w + (64 - w) = omega arith in ap (λ n. 2 ^ n) e ∙ pow-add 2 w (64 - w)

-- `u64::MAX >> (64 - w)`
pub ones_down : (w : ℕ) → w ≤ 64 → (2 ^ 64 - 1) / 2 ^ (64 - w) ≡ 2 ^ w - 1
ones_down w h =
    let e : 64 - (64 - w) ≡ w = omega arith in
    ones_shr 64 (64 - w) (omega arith) ∙ ap (λ n. 2 ^ n - 1) e

pub ones_down_below : (w : ℕ) → w ≤ 64 → (2 ^ 64 - 1) / 2 ^ (64 - w) < 2 ^ w
ones_down_below w h = omega (arith, ones_down w h, pow_pos w)

pub masked : (w n m : ℕ) → m ≡ 2 ^ w - 1 → bit_and n m ≡ n % 2 ^ w
masked w n m e = ap (bit_and n) e ∙ and_mask n w

pub masked_below : (w n m : ℕ) → m ≡ 2 ^ w - 1 → bit_and n m < 2 ^ w
masked_below w n m e = rw (masked w n m e) (mod_below n (2 ^ w) (pow_pos w))

pub one_below : (w : ℕ) → 0 < w → 1 < 2 ^ w
one_below w h = let l : 2 ^ 1 ≤ 2 ^ w = pow_mono h in omega (arith, l)

pub wider_below : (v w n : ℕ) → n < 2 ^ v → v ≤ w → n < 2 ^ w
wider_below v w n p h = omega (arith, pow_mono h)

-- what a machine word drops is dropped modulo 2 ^ w too
pub mod_64 : (w n : ℕ) → w ≤ 64 → n % 2 ^ 64 % 2 ^ w ≡ n % 2 ^ w
mod_64 w n h = let e : 64 ≡ (64 - w) + w = omega arith in ap (λ k. n % 2 ^ k % 2 ^ w) e ∙ mod-mod-pow n (64 - w) w

off : (a x y : ℕ) → (a * (x * y)) % y ≡ 0
off a x y = let e : a * (x * y) ≡ a * x * y = omega arith in ap (λ n. n % y) e ∙ mul-mod_left (a * x) y

pub shifted_off : (w a b : ℕ) → w ≤ b → 0 ≡ (a * 2 ^ b) % 2 ^ w
shifted_off w a b h =
    let e : b ≡ (b - w) + w = omega arith in
    sym (ap (λ n. (a * n) % 2 ^ w) (ap (λ n. 2 ^ n) e ∙ pow-add 2 (b - w) w) ∙ off a (2 ^ (b - w)) (2 ^ w))

pub shifted_out : (w a b : ℕ) → a < 2 ^ w → w ≤ b → 0 ≡ a / 2 ^ b
shifted_out w a b lt h = let l : a < 2 ^ b = omega (arith, pow_mono h) in sym (div-eq_of_lt l)

pub joined : (h l a b : ℕ) → a < 2 ^ h → b < 2 ^ l → h + l ≤ 64 → bit_or (a * 2 ^ l % 2 ^ 64) b ≡ a * 2 ^ l + b
joined h l a b p q le = ap (λ n. bit_or n b) (shl_whole a h l 64 p le) ∙ or_shifted a l b q

pub sum_below : (h l a b : ℕ) → a < 2 ^ h → b < 2 ^ l → a * 2 ^ l + b < 2 ^ (h + l)
sum_below h l a b p q = let m = mul-add-lt a (2 ^ l) b (2 ^ h) p q in let e = pow-add 2 h l in omega (arith, m, e)

pub joined_below : (h l a b : ℕ) → a < 2 ^ h → b < 2 ^ l → h + l ≤ 64 → bit_or (a * 2 ^ l % 2 ^ 64) b < 2 ^ (h + l)
joined_below h l a b p q le = rw (joined h l a b p q le) (sum_below h l a b p q)
