-- Values of digits, and numbers that no type holds.
use Rattle.std.proofs.Common.{◌≡◌, ◌<◌, ◌≤◌, ◌+◌, ◌*◌, ℕ, true, false, cond, List, [], ◌∷◌, Some, None, length, drop, get_or, add-one, drop-cons}
use Rattle.std.proofs.Common.{refl, ap, arith, inl, inr}
use Rattle.std.specs.Prelude.{nat_lt}
use Rattle.std.proofs.Math.Nat.{mul-le-mul_left}
use Rattle.std.proofs.lemmas.List.{drop_all}
use Rattle.std.proofs.lemmas.Bool.{cases_Bool, ltb-true, ltb-false, lt-ltb}
use Rattle.vg_stok.specs.Numbers.{digit_of, value_on}

-- more digits make no smaller value
pub value_on-le : (base n : ℕ) (digits : List ℕ) → 0 < base → n ≤ value_on base n digits
value_on-le base n [] h = omega arith
value_on-le base n (d ∷ digits) h =
    let one : 1 ≤ base = omega arith in
    let more : n ≤ n * base + digit_of d = omega (arith, mul-le-mul_left n one) in
    omega (arith, more, value_on-le base (n * base + digit_of d) digits h)

not_below : (a b : ℕ) → b ≤ a → nat_lt a b ≡ false
not_below a b h = elim (cases_Bool (nat_lt a b)) [
  | inl below ↦ absurd (omega (arith, ltb-true a b below))
  | inr not_so ↦ not_so
]

pub too_great : (v : ℕ) → 18446744073709551616 ≤ v → None ≡ cond (nat_lt v 18446744073709551616) (Some v) None
too_great v h = rw (not_below v 18446744073709551616 h) refl

pub small : (v w : ℕ) → v ≡ w → v < 18446744073709551616 → Some v ≡ cond (nat_lt w 18446744073709551616) (Some w) None
small v w same h =
    let below : nat_lt w 18446744073709551616 ≡ true = lt-ltb w 18446744073709551616 (omega arith) in
    rw below (ap (λ (k : ℕ). Some k) same)

-- a value that the code doesn't give is too great
pub not_given : (v : ℕ) → None ≡ cond (nat_lt v 18446744073709551616) (Some v) None → 18446744073709551616 ≤ v
not_given v e = elim (cases_Bool (nat_lt v 18446744073709551616)) [
  | inl below ↦ absurd (cc (rw below at e))
  | inr not_so ↦ ltb-false v 18446744073709551616 not_so
]

-- the digits from one on
pub later-le : (base n : ℕ) (digits : List ℕ) (i : ℕ) → 0 < base → i < length digits → n * base + digit_of (get_or digits i 0) ≤ value_on base n
    (drop i digits)
later-le base n digits i some h =
    let first : drop i digits ≡ get_or digits i 0 ∷ drop (i + 1) digits = rw (add-one, drop-cons digits i 0) refl in
    rw first (value_on-le base (n * base + digit_of (get_or digits i 0)) (drop (i + 1) digits) some)

pub value-end : (base n : ℕ) (digits : List ℕ) (i : ℕ) → length digits ≤ i → value_on base n (drop i digits) ≡ n
value-end base n digits i h = rw (drop_all i digits h) refl
