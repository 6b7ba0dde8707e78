-- Numbers with the same upper bits.
use Rattle.std.proofs.Common.{◌≡◌, ℕ, ◌+◌, ◌-◌, ◌*◌, ◌/◌, ◌%◌, ◌^◌, ◌<◌, ◌≤◌, sym, ◌∙◌, ap, subst, arith}
use Rattle.std.proofs.lemmas.Nat.{pow_pos, pow-add, shr-shr, shr_split, div-mul-add, mod_below, shr_below, mul-le}

-- a number stands in the run of those with its upper bits
pub run-start : (j k : ℕ) → j / 2 ^ k * 2 ^ k ≤ j
run-start j k = omega (arith, shr_split j k)

pub run-end : (j k : ℕ) → j < j / 2 ^ k * 2 ^ k + 2 ^ k
run-end j k = omega (arith, shr_split j k, mod_below j (2 ^ k) (pow_pos k))

-- what stands in a run has its upper bits
pub run-bits : (j q k : ℕ) → q * 2 ^ k ≤ j → j < q * 2 ^ k + 2 ^ k → j / 2 ^ k ≡ q
run-bits j q k low high =
    let split : j ≡ q * 2 ^ k + (j - q * 2 ^ k) = omega arith in
    ap (λ n. n / 2 ^ k) split ∙ div-mul-add q (2 ^ k) (j - q * 2 ^ k) (omega arith)

pow_8 : (k : ℕ) → k ≤ 8 → 2 ^ (8 - k) * 2 ^ k ≡ 256
pow_8 k h = let e : 8 - k + k ≡ 8 = omega arith in sym (pow-add 2 (8 - k) k) ∙ ap (λ n. 2 ^ n) e

-- the upper bits of a place in a block: those of the block, and those of the place within it
pub upper : (b y k : ℕ) → k ≤ 8 → (b * 256 + y) / 2 ^ k ≡ b * 2 ^ (8 - k) + y / 2 ^ k
upper b y k h =
    let whole : b * (2 ^ (8 - k) * 2 ^ k) ≡ b * 256 = ap (λ n. b * n) (pow_8 k h) in
    let split : b * 256 + y ≡ (b * 2 ^ (8 - k) + y / 2 ^ k) * 2 ^ k + y % 2 ^ k = omega (arith, shr_split y k) in
    ap (λ n. n / 2 ^ k) split ∙ div-mul-add (b * 2 ^ (8 - k) + y / 2 ^ k) (2 ^ k) (y % 2 ^ k) (mod_below y (2 ^ k) (pow_pos k))

upper_of : (x k : ℕ) → k ≤ 8 → x / 2 ^ k ≡ x / 256 * 2 ^ (8 - k) + x % 256 / 2 ^ k
upper_of x k h = let e : x ≡ x / 256 * 256 + x % 256 = omega arith in ap (λ n. n / 2 ^ k) e ∙ upper (x / 256) (x % 256) k h

-- fewer upper bits agree too
pub same_block : (x y k : ℕ) → k ≤ 8 → x / 2 ^ k ≡ y / 2 ^ k → x / 256 ≡ y / 256
same_block x y k h e =
    let eight : k + (8 - k) ≡ 8 = omega arith in
    let at = λ (n : ℕ). shr-shr n k (8 - k) ∙ ap (λ m. n / 2 ^ m) eight in
    sym (at x) ∙ ap (λ n. n / 2 ^ (8 - k)) e ∙ at y

same_low : (x y k : ℕ) → k ≤ 8 → x / 2 ^ k ≡ y / 2 ^ k → x % 256 / 2 ^ k ≡ y % 256 / 2 ^ k
same_low x y k h e =
    let high : x / 256 * 2 ^ (8 - k) ≡ y / 256 * 2 ^ (8 - k) = ap (λ n. n * 2 ^ (8 - k)) (same_block x y k h e) in
    omega (arith, upper_of x k h, upper_of y k h)

-- numbers with the same upper bits have places with the same upper bits in any block
pub in_block : (b x y k : ℕ) → k ≤ 8 → x / 2 ^ k ≡ y / 2 ^ k → (b * 256 + x % 256) / 2 ^ k ≡ (b * 256 + y % 256) / 2 ^ k
in_block b x y k h e =
    upper b (x % 256) k h ∙ ap (λ n. b * 2 ^ (8 - k) + n) (same_low x y k h e) ∙ sym (upper b (y % 256) k h)

-- places with the same upper bits are of one block
pub one_block : (b c x y k : ℕ) → k ≤ 8 → (b * 256 + x % 256) / 2 ^ k ≡ (c * 256 + y % 256) / 2 ^ k → b ≡ c
one_block b c x y k h e =
    let same = same_block (b * 256 + x % 256) (c * 256 + y % 256) k h e in
    omega arith

-- and come from numbers with the same upper bits, where the bits above the block agree
pub from_block : (b x y k : ℕ) → k ≤ 8 → x / 256 ≡ y / 256 → (b * 256 + x % 256) / 2 ^ k ≡ (b * 256 + y % 256) / 2 ^ k → x / 2 ^ k ≡ y / 2 ^ k
from_block b x y k h high e =
    let low : x % 256 / 2 ^ k ≡ y % 256 / 2 ^ k = omega (arith, upper b (x % 256) k h, upper b (y % 256) k h) in
    let scaled : x / 256 * 2 ^ (8 - k) ≡ y / 256 * 2 ^ (8 - k) = ap (λ n. n * 2 ^ (8 - k)) high in
    omega (arith, upper_of x k h, upper_of y k h)

-- a run within the first 2 ^ m numbers
pub run_fits : (x k m : ℕ) → k ≤ m → x < 2 ^ m → x / 2 ^ k * 2 ^ k + 2 ^ k ≤ 2 ^ m
run_fits x k m small fits =
    let e : m - k + k ≡ m = omega arith in
    let whole : 2 ^ (m - k) * 2 ^ k ≡ 2 ^ m = sym (pow-add 2 (m - k) k) ∙ ap (λ n. 2 ^ n) e in
    let below : x < 2 ^ (m - k + k) = subst (λ n. x < 2 ^ n) (sym e) fits in
    let high : x / 2 ^ k < 2 ^ (m - k) = shr_below x (m - k) k below in
    let scaled : (x / 2 ^ k + 1) * 2 ^ k ≤ 2 ^ (m - k) * 2 ^ k = mul-le (x / 2 ^ k + 1) (2 ^ k) (2 ^ (m - k)) (2 ^ k) (omega arith) (omega arith) in
    omega arith

-- a run within a block
pub run_in_block : (b y k : ℕ) → k ≤ 8 → (b * 256 + y % 256) / 2 ^ k * 2 ^ k + 2 ^ k ≤ b * 256 + 256
run_in_block b y k small =
    let within = run_fits (y % 256) k 8 small (omega arith) in
    let whole : b * (2 ^ (8 - k) * 2 ^ k) ≡ b * 256 = ap (λ n. b * n) (pow_8 k small) in
    let scaled : (b * 256 + y % 256) / 2 ^ k * 2 ^ k ≡ (b * 2 ^ (8 - k) + y % 256 / 2 ^ k) * 2 ^ k = ap (λ n. n * 2 ^ k) (upper b (y % 256) k small) in
    omega arith
