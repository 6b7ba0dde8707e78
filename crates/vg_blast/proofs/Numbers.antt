-- The numbers that literals spell: joined, cut, repeated and negated.
use Rattle.std.proofs.Common.{◌≡◌, ℕ, zero, suc, ◌+◌, ◌*◌, ◌/◌, ◌%◌, ◌^◌, ◌<◌, ◌≤◌, List, [], ◌∷◌, ◌++◌, map, length, take, drop, get_or, replicate}
use Rattle.std.proofs.Common.{Bool, true, false, refl, sym, ap, subst, ◌∙◌, arith, All, add-one, length-take-le}
use Rattle.std.specs.Prelude.{ℤ, neg_ℤ, not}
use Rattle.std.proofs.Math.Nat.{pow-succ'}
use Rattle.std.proofs.lemmas.Nat.{mod_low, shr_high}
use Rattle.std.proofs.lemmas.List.{take-append-drop, take_more}
use Rattle.std.proofs.lemmas.List.Elements.{All-head, All-tail}
use Rattle.vg_bits.specs.Words.{bit}
use Rattle.vg_cnf.specs.Clauses.{IsOver}
use Rattle.vg_blast.specs.Circuits.{truth, number}
use Rattle.vg_blast.proofs.Truths.{truth_neg}

pub pow_more : (k : ℕ) → 2 ^ suc k ≡ 2 * 2 ^ k
pow_more k = pow-succ' 2 k

pub pow_next : (k : ℕ) → 2 ^ (k + 1) ≡ 2 * 2 ^ k
pow_next k = ap (λ n. 2 ^ n) (add-one k) ∙ pow-succ' 2 k

pub bit_below : (b : Bool) → bit b < 2
bit_below true = omega arith
bit_below false = omega arith

pub bit_not : (b : Bool) → bit (not b) + bit b ≡ 1
bit_not true = refl
bit_not false = refl

doubled : (p n : ℕ) → 2 * p * n ≡ 2 * (p * n)
doubled p n = omega arith

pub number-append : (v : List Bool) (a b : List ℤ) → number v (a ++ b) ≡ number v a + 2 ^ length a * number v b
number-append v [] b = omega arith
number-append v (l ∷ a) b =
    let e : 2 ^ length (l ∷ a) * number v b ≡ 2 * (2 ^ length a * number v b) = ap (λ n. n * number v b) (pow_more (length a))
    ∙ doubled (2 ^ length a) (number v b) in
    omega (arith, number-append v a b, e)

pub number-push : (v : List Bool) (a : List ℤ) (l : ℤ) → number v (a ++ l ∷ []) ≡ number v a + 2 ^ length a * bit (truth v l)
number-push v a l = number-append v a (l ∷ []) ∙ ap (λ n. number v a + 2 ^ length a * n) (let e : bit (truth v l) + 2 * 0 ≡ bit (truth v l) = omega arith in e)

pub number-below : (v : List Bool) (a : List ℤ) → number v a < 2 ^ length a
number-below v [] = omega arith
number-below v (l ∷ a) = omega (arith, number-below v a, bit_below (truth v l), pow_more (length a))

cut : (v : List Bool) (a : List ℤ) (k : ℕ) → k ≤ length a → number v a ≡ number v (drop k a) * 2 ^ k + number v (take k a)
cut v a k h =
    let long : length (take k a) ≡ k = length-take-le k a h in
    let joined : number v (take k a ++ drop k a) ≡ number v (take k a) + 2 ^ length (take k a) * number v (drop k a) = number-append v (take k a) (drop k a) in
    let powers : 2 ^ length (take k a) ≡ 2 ^ k = ap (λ n. 2 ^ n) long in
    let whole : number v (take k a ++ drop k a) ≡ number v a = ap (number v) (take-append-drop k a) in
    let flipped : 2 ^ length (take k a) * number v (drop k a) ≡ number v (drop k a) * 2 ^ k = ap (λ n. n * number v (drop k a)) powers
    ∙ (let e : 2 ^ k * number v (drop k a) ≡ number v (drop k a) * 2 ^ k = omega arith in e) in
    omega (arith, joined, whole, flipped)

pub low_below : (v : List Bool) (a : List ℤ) (k : ℕ) → k ≤ length a → number v (take k a) < 2 ^ k
low_below v a k h = subst (λ n. number v (take k a) < 2 ^ n) (length-take-le k a h) (number-below v (take k a))

pub number-take : (v : List Bool) (a : List ℤ) (k : ℕ) → k ≤ length a → number v (take k a) ≡ number v a % 2 ^ k
number-take v a k h = sym (ap (λ n. n % 2 ^ k) (cut v a k h) ∙ mod_low (number v (drop k a)) k (number v (take k a)) (low_below v a k h))

pub number-drop : (v : List Bool) (a : List ℤ) (k : ℕ) → k ≤ length a → number v (drop k a) ≡ number v a / 2 ^ k
number-drop v a k h = sym (ap (λ n. n / 2 ^ k) (cut v a k h) ∙ shr_high (number v (drop k a)) k (number v (take k a)) (low_below v a k h))

-- one more literal is read
pub number-more : (v : List Bool) (a : List ℤ) (i : ℕ) (x : ℤ) → i < length a → x ≡ get_or a i x
    → number v (take (i + 1) a) ≡ number v (take i a) + 2 ^ i * bit (truth v x)
number-more v a i x h is =
    let longer : take (i + 1) a ≡ take i a ++ x ∷ [] = take_more a i x h ∙ ap (λ y. take i a ++ y ∷ []) (sym is) in
    let long : length (take i a) ≡ i = length-take-le i a (omega (arith, h)) in
    ap (number v) longer ∙ number-push v (take i a) x ∙ ap (λ n. number v (take i a) + 2 ^ n * bit (truth v x)) long

pub number-zeros : (v : List Bool) (l : ℤ) (n : ℕ) → truth v l ≡ false → number v (replicate n l) ≡ 0
number-zeros v l zero e = refl
number-zeros v l (suc n) e = omega (arith, number-zeros v l n e, ap bit e)

pub number-ones : (v : List Bool) (l : ℤ) (n : ℕ) → truth v l ≡ true → number v (replicate n l) + 1 ≡ 2 ^ n
number-ones v l zero e = refl
number-ones v l (suc n) e = omega (arith, number-ones v l n e, ap bit e, pow_more n)

pub number-negated : (v : List Bool) (n : ℕ) (a : List ℤ) → All (IsOver n) a → number v (map neg_ℤ a) + number v a + 1 ≡ 2 ^ length a
number-negated v n [] over = refl
number-negated v n (l ∷ a) over =
    let here = ap bit (truth_neg v l (All-head (IsOver n) l a over).0) in
    omega (arith, here, bit_not (truth v l), number-negated v n a (All-tail (IsOver n) l a over), pow_more (length a))
