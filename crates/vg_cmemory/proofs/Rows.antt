-- Words of bytes.
use Rattle.std.proofs.Common.{◌≡◌, ℕ, zero, suc, ◌+◌, ◌-◌, ◌*◌, ◌/◌, ◌%◌, ◌^◌, ◌<◌, ◌≤◌, ◌∷◌, refl, arith, ap, subst, sym, ◌∙◌}
use Rattle.std.proofs.Math.Nat.{pow-succ'}
use Rattle.vg_cmemory.specs.Access.{bytes_of_word}

power_suc : (n : ℕ) → 256 ^ suc n ≡ 256 * 256 ^ n
power_suc n = pow-succ' 256 n

-- a byte before a word of the others
pub joined_below : (byte rest size : ℕ) → 0 < size → byte < 256 → rest < 256 ^ (size - 1) → byte + 256 * rest < 256 ^ size
joined_below byte rest size h b r =
    let e : size ≡ suc (size - 1) = omega arith in
    let p : 256 ^ size ≡ 256 * 256 ^ (size - 1) = ap (λ n. 256 ^ n) e ∙ power_suc (size - 1) in
    omega arith

power_mono : (m n : ℕ) → 256 ^ m ≤ 256 ^ (m + n)
power_mono m zero = let e : m ≡ m + 0 = omega arith in subst (λ k. 256 ^ m ≤ 256 ^ k) e (omega arith)
power_mono m (suc n) = let h = power_mono m n in let p = power_suc (m + n) in let e : m + suc n ≡ suc (m + n) = omega arith in
    subst (λ k. 256 ^ m ≤ 256 ^ k) (sym e) (omega arith)

-- eight bytes are a word of 64 bits
pub at_most_a_word : (size : ℕ) → size ≤ 8 → 256 ^ size ≤ 2 ^ 64
at_most_a_word size h = let e : size + (8 - size) ≡ 8 = omega arith in subst (λ k. 256 ^ size ≤ 256 ^ k) e (power_mono size (8 - size))

pub fits_word : (byte rest size : ℕ) → 0 < size → size ≤ 8 → byte < 256 → rest < 256 ^ (size - 1) → byte + 256 * rest < 2 ^ 64
fits_word byte rest size h w b r = let one = joined_below byte rest size h b r in let all = at_most_a_word size w in omega arith

pub fits_rest : (rest size : ℕ) → 0 < size → size ≤ 8 → rest < 256 ^ (size - 1) → 256 * rest < 2 ^ 64
fits_rest rest size h w r = let all = fits_word 0 rest size h w (omega arith) r in omega arith

-- the lowest byte, and then the others
pub bytes_next : (size word : ℕ) → 0 < size → bytes_of_word size word ≡ word % 256 ∷ bytes_of_word (size - 1) (word / 256)
bytes_next size word h =
    let e : size ≡ suc (size - 1) = omega arith in
    subst (λ n. bytes_of_word n word ≡ word % 256 ∷ bytes_of_word (size - 1) (word / 256)) (sym e) refl
