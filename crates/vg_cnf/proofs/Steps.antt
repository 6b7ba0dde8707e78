-- The steps of unit propagation, one equation for each case.
use Rattle.std.proofs.Common.{◌≡◌, ℕ, zero, suc, ◌+◌, List, [], ◌∷◌, ◌++◌, Option, Some, None, Bool, true, false, refl, sym, ap, ◌∙◌, ◌⊎◌, inl, inr}
use Rattle.std.specs.Prelude.{ℤ, neg_ℤ, ◌||◌, not, map, filter, cond}
use Rattle.std.specs.Option.{option_map, option_map_or}
use Rattle.std.specs.List.{list_all}
use Rattle.std.specs.Ordering.{int_eq}
use Rattle.std.proofs.lemmas.Bool.{true≢false, false≢true}
use Rattle.std.proofs.lemmas.Bool.Decides.{Decides-int_eq}
use Rattle.vg_cnf.specs.Clauses.{holds, without}
use Rattle.vg_cnf.specs.Propagation.{has_empty, first_unit, given, propagated_in, follows}
use Rattle.vg_cnf.specs.Refutations.{first_unfollowed}

-- ---- truth values

pub not_true_back : (b : Bool) → not b ≡ true → b ≡ false
not_true_back true e = absurd (false≢true e)
not_true_back false e = refl

pub not_false_back : (b : Bool) → not b ≡ false → b ≡ true
not_false_back true e = refl
not_false_back false e = absurd (true≢false e)

pub clash : {P : Type 0} (b : Bool) → b ≡ true → b ≡ false → P
clash b t f = absurd (true≢false (sym t ∙ f))

pub or_rest : (x y : Bool) → (x || y) ≡ true → x ≡ false → y ≡ true
or_rest true y e f = clash true refl f
or_rest false y e f = e

pub same_literal : (x y : ℤ) → int_eq x y ≡ true → x ≡ y
same_literal x y e = (Decides-int_eq x y).0 e

pub same_test : (x y : ℤ) → x ≡ y → int_eq x y ≡ true
same_test x y e = (Decides-int_eq x y).1 e

pub cases_Option : {A : Type 0} (o : Option A) → (o ≡ None) ⊎ ((x : A) × (o ≡ Some x))
cases_Option None = inl refl
cases_Option (Some x) = inr (x, refl)

-- ---- one literal made true

pub without-kept : (l k : ℤ) (c : List ℤ) → int_eq l k ≡ false → without l (k ∷ c) ≡ k ∷ without l c
without-kept l k c e = ap (λ b. cond (not b) (k ∷ without l c) (without l c)) e

pub without-dropped : (l k : ℤ) (c : List ℤ) → int_eq l k ≡ true → without l (k ∷ c) ≡ without l c
without-dropped l k c e = ap (λ b. cond (not b) (k ∷ without l c) (without l c)) e

kept_of : ℤ → List (List ℤ) → List (List ℤ)
kept_of l clauses = filter (λ c. not (holds c l)) clauses

pub given-kept : (l : ℤ) (c : List ℤ) (clauses : List (List ℤ)) → holds c l ≡ false → given l (c ∷ clauses) ≡ without (neg_ℤ l) c ∷ given l clauses
unfolding kept_of
given-kept l c clauses e = ap (λ b. map (without (neg_ℤ l)) (cond (not b) (c ∷ kept_of l clauses) (kept_of l clauses))) e

pub given-dropped : (l : ℤ) (c : List ℤ) (clauses : List (List ℤ)) → holds c l ≡ true → given l (c ∷ clauses) ≡ given l clauses
unfolding kept_of
given-dropped l c clauses e = ap (λ b. map (without (neg_ℤ l)) (cond (not b) (c ∷ kept_of l clauses) (kept_of l clauses))) e

pub first_unit-here : (l : ℤ) (rest : List ℤ) (clauses : List (List ℤ)) → list_all (int_eq l) rest ≡ true → first_unit ((l ∷ rest) ∷ clauses) ≡ Some l
first_unit-here l rest clauses e = ap (λ b. cond b (Some l) (first_unit clauses)) e

pub first_unit-later : (l : ℤ) (rest : List ℤ) (clauses : List (List ℤ)) → list_all (int_eq l) rest ≡ false
    → first_unit ((l ∷ rest) ∷ clauses) ≡ first_unit clauses
first_unit-later l rest clauses e = ap (λ b. cond b (Some l) (first_unit clauses)) e

-- ---- propagation

-- what the recursion does with the first unit
pub after_unit : ℕ → List (List ℤ) → Option ℤ → Option (List ℤ)
after_unit steps clauses unit = option_map_or (λ l. option_map (λ more. l ∷ more) (propagated_in steps (given l clauses))) unit (Some [])

pub propagated-empty : (steps : ℕ) (clauses : List (List ℤ)) → has_empty clauses ≡ true → propagated_in steps clauses ≡ None
unfolding after_unit
propagated-empty zero clauses e = ap (λ b. cond b None (Some [])) e
propagated-empty (suc steps) clauses e = ap (λ b. cond b None (after_unit steps clauses (first_unit clauses))) e

pub propagated-done : (steps : ℕ) (clauses : List (List ℤ)) → has_empty clauses ≡ false → first_unit clauses ≡ None → propagated_in steps clauses ≡ Some []
unfolding after_unit
propagated-done zero clauses e unit = ap (λ b. cond b None (Some [])) e
propagated-done (suc steps) clauses e unit =
    ap (λ b. cond b None (after_unit steps clauses (first_unit clauses))) e ∙ ap (after_unit steps clauses) unit

pub propagated-out : (clauses : List (List ℤ)) → has_empty clauses ≡ false → propagated_in zero clauses ≡ Some []
propagated-out clauses e = ap (λ b. cond b None (Some [])) e

pub propagated-unit : (steps : ℕ) (clauses : List (List ℤ)) (l : ℤ) → has_empty clauses ≡ false → first_unit clauses ≡ Some l →
    propagated_in (suc steps) clauses ≡ option_map (λ more. l ∷ more) (propagated_in steps (given l clauses))
unfolding after_unit
propagated-unit steps clauses l e unit =
    ap (λ b. cond b None (after_unit steps clauses (first_unit clauses))) e ∙ ap (after_unit steps clauses) unit

-- ---- lists that follow in turn

pub none_numbered : (o : Option ℕ) → option_map (λ n. n + 1) o ≡ None → o ≡ None
none_numbered None e = refl
none_numbered (Some n) e = absurd (cc)

pub unfollowed-here : (clauses : List (List ℤ)) (c : List ℤ) (steps : List (List ℤ)) → follows clauses c ≡ false → first_unfollowed clauses (c ∷ steps) ≡ Some 1
unfollowed-here clauses c steps e =
    ap (λ b. cond b (option_map (λ n. n + 1) (first_unfollowed (clauses ++ c ∷ []) steps)) (Some 1)) e

pub unfollowed-later : (clauses : List (List ℤ)) (c : List ℤ) (steps : List (List ℤ)) → follows clauses c ≡ true →
    first_unfollowed clauses (c ∷ steps) ≡ option_map (λ n. n + 1) (first_unfollowed (clauses ++ c ∷ []) steps)
unfollowed-later clauses c steps e =
    ap (λ b. cond b (option_map (λ n. n + 1) (first_unfollowed (clauses ++ c ∷ []) steps)) (Some 1)) e
