-- What stands at a place of a list after one of its items was set.
use Rattle.std.proofs.Common.{◌≡◌, ℕ, zero, suc, ◌<◌, ◌≢◌, List, [], ◌∷◌, length, set, Option, Some, None, slice_get, refl, sym, ◌∙◌, ap, arith, Bool}
use Rattle.std.proofs.Common.{true, false, cond, inl, inr}
use Rattle.std.specs.Prelude.{unwrap_or, IsSome, ◌==◌}
use Rattle.std.specs.Str.{bytes_eq}
use Rattle.std.specs.Ordering.{eq_by_cmp, nat_cmp}
use Rattle.std.specs.Cmp.Lexicographic.{slice_cmp, texts_ties}
use Rattle.std.proofs.lemmas.Bool.{cases_eq, eq-eqb, ne_eqb}

pub some_is : {X : Type 0} (x y : X) → Some x ≡ Some y → x ≡ y
some_is x y same = ap (λ found. unwrap_or found x) same

pub none_some : {X : Type 0} (x : X) → None ≡ Some x → ⊥
none_some x same = absurd (cc)

pub set_here : {X : Type 0} (xs : List X) (i : ℕ) (x : X) → i < length xs → slice_get (set xs i x) i ≡ Some x
set_here [] i x less = absurd (omega arith)
set_here (y ∷ ys) zero x less = refl
set_here (y ∷ ys) (suc i) x less = set_here ys i x (omega arith)

pub set_other : {X : Type 0} (xs : List X) (i j : ℕ) (x : X) → j ≢ i → slice_get (set xs i x) j ≡ slice_get xs j
set_other [] i j x ne = refl
set_other (y ∷ ys) zero zero x ne = absurd (ne refl)
set_other (y ∷ ys) zero (suc j) x ne = refl
set_other (y ∷ ys) (suc i) zero x ne = refl
set_other (y ∷ ys) (suc i) (suc j) x ne = set_other ys i j x (λ same. ne (ap suc same))

-- both as one
pub set_at : {X : Type 0} (xs : List X) (i j : ℕ) (x : X) → i < length xs → slice_get (set xs i x) j ≡ cond (i == j) (Some x) (slice_get xs j)
set_at xs i j x less = elim (cases_eq i j) [
  | inl same ↦ ap (λ (k : ℕ). slice_get (set xs i x) k) (sym same) ∙ set_here xs i x less ∙ sym (ap (λ b. cond b (Some x) (slice_get xs j)) (eq-eqb i j same))
  | inr ne ↦ set_other xs i j x (λ same. ne (sym same)) ∙ sym (ap (λ b. cond b (Some x) (slice_get xs j)) (ne_eqb i j ne))
]

-- bytes
pub bytes_same : (xs : List ℕ) → bytes_eq xs xs ≡ true
bytes_same [] = refl
bytes_same (x ∷ xs) = rw (eq-eqb x x refl) (bytes_same xs)

pub bytes_true : (xs ys : List ℕ) → bytes_eq xs ys ≡ true → xs ≡ ys
bytes_true [] [] is = refl
bytes_true [] (y ∷ ys) is = absurd (cc)
bytes_true (x ∷ xs) [] is = absurd (cc)
bytes_true (x ∷ xs) (y ∷ ys) is = elim (cases_eq x y) [
  | inl same ↦ ap (λ (n : ℕ). n ∷ xs) same ∙ ap (λ (ns : List ℕ). y ∷ ns) (bytes_true xs ys (rw (eq-eqb x y same) at is))
  | inr ne ↦ absurd (let h = rw (ne_eqb x y ne) at is in cc)
]

pub ties : (x y : List ℕ) → eq_by_cmp (slice_cmp nat_cmp) x y ≡ bytes_eq x y
ties x y = sym (texts_ties x y)

-- a cell that is lent is there
pub lent_inside : (lent : List Bool) (index : ℕ) → unwrap_or (slice_get lent index) false ≡ true → index < length lent
lent_inside [] index is = absurd (cc)
lent_inside (one ∷ lent) zero is = omega arith
lent_inside (one ∷ lent) (suc index) is = let rest : index < length lent = lent_inside lent index is in omega arith

pub some_of : {X : Type 0} (found : Option X) → IsSome found → (x : X) × (found ≡ Some x)
some_of None is = absurd (cc)
some_of (Some x) is = (x, refl)
