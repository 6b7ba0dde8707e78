-- Lists of numbers: what is in them, and how often.
use Rattle.std.proofs.Common.{◌≡◌, ◌≢◌, ◌∙◌, ◌<◌, ◌≤◌, ◌+◌, ◌⊎◌, inl, inr, ℕ, zero, suc, cond, List, [], ◌∷◌, ◌++◌, length, get_or, set, slice_get}
use Rattle.std.proofs.Common.{Some, refl, sym, ap, subst, arith, eq-eqb}
use Rattle.std.specs.Prelude.{flat_map, count_by, AllPairs, Contains, ◌==◌}
use Rattle.std.proofs.lemmas.Bool.{cases_lt}
use Rattle.std.proofs.lemmas.Bool.Decides.{eqb_tells}
use Rattle.std.proofs.lemmas.Option.{same_Some}
use Rattle.std.proofs.lemmas.List.Concat.{flat_map-cons}
use Rattle.std.proofs.lemmas.List.Sums.{sum_by-append, sum_by-cons}

abbrev pub In : ℕ → List ℕ → Type 0
In n [] = ⊥
In n (x ∷ xs) = (x ≡ n) ⊎ In n xs

in_at : (xs : List ℕ) (k n : ℕ) → k < length xs → get_or xs k n ≡ n → In n xs
in_at [] k n l e = absurd (omega (arith, l))
in_at (x ∷ xs) zero n l e = inl e
in_at (x ∷ xs) (suc k) n l e = inr (in_at xs k n (omega (arith, l)) e)

pub of_contains : (xs : List ℕ) (n : ℕ) → Contains xs n → In n xs
of_contains xs n c = in_at xs c.0 n c.1 c.2

pub to_contains : (xs : List ℕ) (n : ℕ) → In n xs → Contains xs n
to_contains [] n i = absurd i
to_contains (x ∷ xs) n (inl e) = (0, omega arith, e)
to_contains (x ∷ xs) n (inr i) = let c = to_contains xs n i in (suc c.0, omega (arith, c.1), c.2)

pub in_front : (n : ℕ) (xs ys : List ℕ) → In n xs → In n (xs ++ ys)
in_front n [] ys i = absurd i
in_front n (x ∷ xs) ys (inl e) = inl e
in_front n (x ∷ xs) ys (inr i) = inr (in_front n xs ys i)

pub in_back : (n : ℕ) (xs ys : List ℕ) → In n ys → In n (xs ++ ys)
in_back n [] ys i = i
in_back n (x ∷ xs) ys i = inr (in_back n xs ys i)

-- ---- numbers that rise

abbrev pub Rising : List ℕ → Type 0
Rising [] = Unit {0}
Rising (x ∷ xs) = ((y : ℕ) → In y xs → x < y) × Rising xs

pub rising_of : (xs : List ℕ) → AllPairs (λ one other. one < other) xs → Rising xs
rising_of [] h = tt
rising_of (x ∷ xs) h = (
  λ y i. let c = to_contains xs y i in subst (λ z. x < z) c.2 (h 0 (suc c.0) y (omega arith) (omega (arith, c.1))),
  rising_of xs (λ i j d one two. h (suc i) (suc j) d (omega (arith, one)) (omega (arith, two))),
)

-- ---- how often

abbrev pub times : ℕ → List ℕ → ℕ
times n xs = count_by (λ part. part == n) xs

times-cons : (n x : ℕ) (xs : List ℕ) → times n (x ∷ xs) ≡ cond (x == n) 1 0 + times n xs
times-cons n x xs = sum_by-cons (λ x. cond (x == n) 1 0) x xs

times-append : (n : ℕ) (xs ys : List ℕ) → times n (xs ++ ys) ≡ times n xs + times n ys
times-append n xs ys = sum_by-append (λ x. cond (x == n) 1 0) xs ys

in_times : (n : ℕ) (xs : List ℕ) → In n xs → 1 ≤ times n xs
in_times n [] i = absurd i
in_times n (x ∷ xs) (inl e) = let one : ◌≡◌ {A = ℕ} (cond (x == n) 1 0) 1 = ap (λ b. cond b 1 0) (eq-eqb x n e) in omega (arith, one, times-cons n x xs)
in_times n (x ∷ xs) (inr i) = omega (arith, in_times n xs i, times-cons n x xs)

times_in : (n : ℕ) (xs : List ℕ) → 1 ≤ times n xs → In n xs
times_in n [] h = absurd (omega (arith, h))
times_in n (x ∷ xs) h = elim (eqb_tells x n) [
  | inl same ↦ inl same.1
  | inr other ↦ let none : ◌≡◌ {A = ℕ} (cond (x == n) 1 0) 0 = ap (λ b. cond b 1 0) other.0 in inr (times_in n xs (omega (arith, none, times-cons n x xs, h)))
]

-- ---- lists of what things have

module _ {X : Type 0} (f : X → List ℕ) (n : ℕ) where
  times-flat : (x : X) (xs : List X) → times n (flat_map f (x ∷ xs)) ≡ times n (f x) + times n (flat_map f xs)
  times-flat x xs = ap (times n) (flat_map-cons f x xs) ∙ times-append n (f x) (flat_map f xs)

  pub one_place : (xs : List X) (i : ℕ) (a : X) → slice_get xs i ≡ Some a → In n (f a) → 1 ≤ times n (flat_map f xs)
  one_place [] zero a e h = absurd (cc)
  one_place [] (suc i) a e h = absurd (cc)
  one_place (x ∷ xs) zero a e h = omega (arith, in_times n (f x) (subst (λ y. In n (f y)) (sym (same_Some x a e)) h), times-flat x xs)
  one_place (x ∷ xs) (suc i) a e h = omega (arith, one_place xs i a e h, times-flat x xs)

  pub two_places : (xs : List X) (i j : ℕ) (a b : X) → i < j → slice_get xs i ≡ Some a → In n (f a) → slice_get xs j ≡ Some b → In n (f b)
      → 2 ≤ times n (flat_map f xs)
  two_places xs i zero a b l e h g k = absurd (omega (arith, l))
  two_places [] zero (suc j) a b l e h g k = absurd (cc)
  two_places [] (suc i) (suc j) a b l e h g k = absurd (cc)
  two_places (x ∷ xs) zero (suc j) a b l e h g k =
      omega (arith, in_times n (f x) (subst (λ y. In n (f y)) (sym (same_Some x a e)) h), one_place xs j b g k, times-flat x xs)
  two_places (x ∷ xs) (suc i) (suc j) a b l e h g k = omega (arith, two_places xs i j a b (omega (arith, l)) e h g k, times-flat x xs)

  pub a_place : (xs : List X) → 1 ≤ times n (flat_map f xs) → (i : ℕ) × (a : X) × (slice_get xs i ≡ Some a) × In n (f a)
  a_place [] h = absurd (omega (arith, h))
  a_place (x ∷ xs) h = elim (cases_lt 0 (times n (f x))) [
    | inl here ↦ (0, x, refl, times_in n (f x) (omega (arith, here)))
    | inr none ↦ let p = a_place xs (omega (arith, h, none, times-flat x xs)) in (suc p.0, p.1, p.2, p.3)
  ]

-- ---- a list that is set somewhere

module _ {X : Type 0} where
  pub get_set_same : (xs : List X) (i : ℕ) (x : X) → i < length xs → slice_get (set xs i x) i ≡ Some x
  get_set_same [] i x l = absurd (omega (arith, l))
  get_set_same (y ∷ ys) zero x l = refl
  get_set_same (y ∷ ys) (suc i) x l = get_set_same ys i x (omega (arith, l))

  pub get_set_other : (xs : List X) (i j : ℕ) (x : X) → i ≢ j → slice_get (set xs i x) j ≡ slice_get xs j
  get_set_other [] i j x h = refl
  get_set_other (y ∷ ys) zero zero x h = absurd (h refl)
  get_set_other (y ∷ ys) zero (suc j) x h = refl
  get_set_other (y ∷ ys) (suc i) zero x h = refl
  get_set_other (y ∷ ys) (suc i) (suc j) x h = get_set_other ys i j x (λ e. h (ap suc e))
