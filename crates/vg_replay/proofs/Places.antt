-- Elements by their places.
use Rattle.std.proofs.lemmas.Bool.{cases_lt}
use Rattle.std.proofs.lemmas.List.{get_or_append_left}
use Rattle.std.proofs.lemmas.List.Elements.{All-tail}
use Rattle.std.proofs.lemmas.Option.{slice_get_within, get_or_from_slice_get, slice_get-get_or, slice_get_read, slice_get-map}
use Rattle.std.proofs.Common.{◌≡◌, ◌≢◌, ◌<◌, ◌∙◌, ℕ, zero, suc, List, [], ◌∷◌, ◌++◌, length, get_or, set, map, option_map, slice_get, All, AllPairs}
use Rattle.std.proofs.Common.{Some, inl, inr, refl, sym, ap, subst, arith, length-append}

module _ {A : Type 0} where
  -- what holds of each element holds of the one at a place
  pub All-at : (P : A → Type 0) (xs : List A) (i : ℕ) (x : A) → All P xs → slice_get xs i ≡ Some x → P x
  All-at P xs i x all at = subst P (get_or_from_slice_get xs i x x at) (all i x (slice_get_within xs i x at))

  -- a place within a list has an element
  pub at_place : (xs : List A) (i : ℕ) (d : A) → i < length xs → (x : A) × (slice_get xs i ≡ Some x)
  at_place xs i d within = (get_or xs i d, slice_get-get_or xs i d within)

  -- elements at different places differ, where all do
  pub differ_at : (xs : List A) (i j : ℕ) (x y : A) → AllPairs ◌≢◌ xs → slice_get xs i ≡ Some x → slice_get xs j ≡ Some y → i ≢ j → x ≢ y
  differ_at xs i j x y apart at_i at_j other same =
      let xi = get_or_from_slice_get xs i x x at_i in
      let yj = get_or_from_slice_get xs j y x at_j in
      elim (cases_lt i j) [
        | inl below ↦ apart i j x below (slice_get_within xs j y at_j) (xi ∙ same ∙ sym yj)
        | inr above ↦ apart j i x (omega (arith, above, other)) (slice_get_within xs i x at_i) (yj ∙ sym same ∙ sym xi)
      ]

  pub at_left : (xs ys : List A) (i : ℕ) → i < length xs → slice_get (xs ++ ys) i ≡ slice_get xs i
  at_left [] ys i within = absurd (omega arith)
  at_left (x ∷ xs) ys zero within = refl
  at_left (x ∷ xs) ys (suc i) within = at_left xs ys i (omega arith)

  pub at_end : (xs : List A) (x : A) → slice_get (xs ++ x ∷ []) (length xs) ≡ Some x
  at_end [] x = refl
  at_end (y ∷ xs) x = at_end xs x

  -- an element that is put in its own place
  pub set_same : (xs : List A) (i : ℕ) (x : A) → slice_get xs i ≡ Some x → set xs i x ≡ xs
  set_same [] i x at = refl
  set_same (y ∷ xs) zero x at = let same : y ≡ x = cc in rw same refl
  set_same (y ∷ xs) (suc i) x at = ap (λ (l : List A). y ∷ l) (set_same xs i x at)

  -- the first part of what holds of each element
  pub All-left : (P : A → Type 0) (xs ys : List A) → All P (xs ++ ys) → All P xs
  All-left P xs ys all k d within = rw (get_or_append_left xs ys d k within) at (all k d (omega (arith, within, length-append xs ys)))

  pub All-right : (P : A → Type 0) (xs ys : List A) → All P (xs ++ ys) → All P ys
  All-right P [] ys all = all
  All-right P (x ∷ xs) ys all = All-right P xs ys (All-tail P x (xs ++ ys) all)

  pub All-last : (P : A → Type 0) (xs : List A) (x : A) → All P (xs ++ x ∷ []) → P x
  All-last P xs x all = All-at P (xs ++ x ∷ []) (length xs) x all (at_end xs x)

  pub AllPairs-left : (R : A → A → Type 0) (xs ys : List A) → AllPairs R (xs ++ ys) → AllPairs R xs
  AllPairs-left R xs ys all i j d below within =
      rw (get_or_append_left xs ys d i (omega (arith, below, within)), get_or_append_left xs ys d j within) at
      (all i j d below (omega (arith, within, length-append xs ys)))

-- what is seen of an element
pub seen_at : {A B : Type 0} (f : A → B) (xs : List A) (i : ℕ) (x : A) → i < length xs → x ≡ get_or xs i x → slice_get (map f xs) i ≡ Some (f x)
seen_at f xs i x within is = slice_get-map f xs i ∙ ap (option_map f) (slice_get_read xs (length xs) i x refl within is)
