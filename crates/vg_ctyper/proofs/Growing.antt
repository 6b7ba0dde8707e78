-- Lists that grow by one item at a time.
use Rattle.std.proofs.Common.{◌≡◌, ℕ, zero, suc, ◌+◌, ◌<◌, ◌≤◌, List, [], ◌∷◌, ◌++◌, length, take, slice_get, Some, refl, sym, ap, ◌∙◌, arith, inl, inr}
use Rattle.std.specs.Prelude.{◌⊎◌}
use Rattle.std.proofs.lemmas.Bool.{cases_lt}
use Rattle.std.proofs.lemmas.List.{length-append, take-append-le}
use Rattle.std.proofs.Math.Seq.{take-length}

-- below the next number is the number itself, or one below it
pub below_next : (n m : ℕ) → n < suc m → (n < m) ⊎ (n ≡ m)
below_next n m h = elim (cases_lt n m) [ inl l ↦ inl l | inr g ↦ inr (omega arith) ]

get_seam : {A : Type 0} (xs : List A) (x : A) → slice_get (xs ++ x ∷ []) (length xs) ≡ Some x
get_seam [] x = refl
get_seam (y ∷ xs) x = get_seam xs x

get_front : {A : Type 0} (xs ys : List A) (n : ℕ) → n < length xs → slice_get (xs ++ ys) n ≡ slice_get xs n
get_front [] ys n h = absurd (omega arith)
get_front (x ∷ xs) ys zero h = refl
get_front (x ∷ xs) ys (suc n) h = get_front xs ys n (omega arith)

module _ {A : Type 0} (grown : ℕ → List A) (next : ℕ → A) (start : grown 0 ≡ []) (step : (n : ℕ) → grown (suc n) ≡ grown n ++ next n ∷ []) where
  pub length_grown : (n : ℕ) → length (grown n) ≡ n
  length_grown zero = ap length start
  length_grown (suc n) =
      let e : length (grown (suc n)) ≡ length (grown n) + 1 = ap length (step n) ∙ length-append (grown n) (next n ∷ []) in
      let i : length (grown n) ≡ n = length_grown n in
      omega arith

  -- the first items are those that were there first
  pub take_grown : (m n : ℕ) → n ≤ m → take n (grown m) ≡ grown n
  take_grown zero n h =
      let z : n ≡ 0 = omega arith in
      ap (λ k. take k (grown 0)) z ∙ sym start ∙ ap grown (sym z)
  take_grown (suc m) n h = elim (cases_lt m n) [
    | inl l ↦
        let e : n ≡ suc m = omega arith in
        let f : length (grown (suc m)) ≡ n = length_grown (suc m) ∙ sym e in
        ap (λ k. take k (grown (suc m))) (sym f) ∙ take-length (grown (suc m)) ∙ ap grown (sym e)
    | inr g ↦
        let i : length (grown m) ≡ m = length_grown m in
        ap (take n) (step m) ∙ take-append-le n (grown m) (next m ∷ []) (omega arith) ∙ take_grown m n g
  ]

  -- each item stands at its number
  pub get_grown : (m n : ℕ) → n < m → slice_get (grown m) n ≡ Some (next n)
  get_grown zero n h = absurd (omega arith)
  get_grown (suc m) n h = elim (below_next n m h) [
    | inl l ↦
        let i : length (grown m) ≡ m = length_grown m in
        ap (λ xs. slice_get xs n) (step m) ∙ get_front (grown m) (next m ∷ []) n (omega arith) ∙ get_grown m n l
    | inr e ↦
        ap (λ xs. slice_get xs n) (step m)
        ∙ ap (slice_get (grown m ++ next m ∷ [])) (e ∙ sym (length_grown m))
        ∙ get_seam (grown m) (next m)
        ∙ ap (λ k. Some (next k)) (sym e)
  ]

-- the items up to one that stands there
pub take_next : {A : Type 0} (xs : List A) (n : ℕ) (x : A) → slice_get xs n ≡ Some x → take (suc n) xs ≡ take n xs ++ x ∷ []
take_next [] zero x e = absurd (cc)
take_next [] (suc n) x e = absurd (cc)
take_next (y ∷ ys) zero x e = ap (λ z. z ∷ []) (cc e)
take_next (y ∷ ys) (suc n) x e = ap (λ l. y ∷ l) (take_next ys n x e)
