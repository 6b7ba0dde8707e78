-- What follows by unit propagation is true in every model, and so refuted clauses have none.
use Rattle.std.proofs.Common.{◌≡◌, ℕ, zero, suc, List, [], ◌∷◌, ◌++◌, Option, Some, None, Bool, true, false, refl, sym, ap, ◌∙◌, inl, inr, length}
use Rattle.std.specs.Prelude.{ℤ, pos, negsuc, neg_ℤ, not, is_none, slice_index_or}
use Rattle.std.specs.List.{list_all}
use Rattle.std.specs.Option.{option_map}
use Rattle.std.specs.Ordering.{int_eq}
use Rattle.std.proofs.lemmas.Bool.{cases_Bool, and_parts, and_right, and_from, or_parts, or_left, or_right, true≢false, false≢true}
use Rattle.std.proofs.lemmas.List.Folds.{list_all-append}
use Rattle.vg_cnf.specs.Clauses.{ClauseSet, holds, without, is_clause, makes_literal_true, makes_true, makes_all_true, IsModel}
use Rattle.vg_cnf.specs.Propagation.{has_empty, first_unit, given, propagated_in, propagated, falsified, follows}
use Rattle.vg_cnf.specs.Refutations.{first_unfollowed, ends_empty, IsRefutation}
use Rattle.vg_cnf.proofs.Steps.{not_true_back, not_false_back, clash, or_rest, same_literal, without-kept, without-dropped, given-kept, given-dropped}
use Rattle.vg_cnf.proofs.Steps.{first_unit-here, first_unit-later, propagated-done, propagated-out, propagated-unit, cases_Option, none_numbered}
use Rattle.vg_cnf.proofs.Steps.{unfollowed-here, unfollowed-later}

-- ---- literals

-- a literal and its negation aren't both true
negation_false : (values : List Bool) (l : ℤ) → makes_literal_true values l ≡ true → makes_literal_true values (neg_ℤ l) ≡ false
negation_false values (pos zero) e = refl
negation_false values (pos (suc n)) e = ap not e
negation_false values (negsuc n) e = not_true_back (slice_index_or values n false) e

-- and of a literal other than 0 one of the two is
negation_true : (values : List Bool) (l : ℤ) → int_eq (pos 0) l ≡ false → makes_literal_true values l ≡ false → makes_literal_true values (neg_ℤ l) ≡ true
negation_true values (pos zero) not_zero e = absurd (true≢false not_zero)
negation_true values (pos (suc n)) not_zero e = ap not e
negation_true values (negsuc n) not_zero e = not_false_back (slice_index_or values n false) e

-- ---- clauses

empty_false : (values : List Bool) (clauses : List (List ℤ)) → has_empty clauses ≡ true → makes_all_true values clauses ≡ false
empty_false values [] e = absurd (false≢true e)
empty_false values ([] ∷ clauses) e = refl
empty_false values ((l ∷ rest) ∷ clauses) e =
    and_right (makes_true values (l ∷ rest)) (makes_all_true values clauses) (empty_false values clauses e)

-- a list of one literal, however often it stands there, is true where that is
repeated_true : (values : List Bool) (l : ℤ) (rest : List ℤ) → list_all (int_eq l) rest ≡ true → makes_true values rest ≡ true
    → makes_literal_true values l ≡ true
repeated_true values l [] all e = absurd (false≢true e)
repeated_true values l (k ∷ rest) all e =
    let parts = and_parts (int_eq l k) (list_all (int_eq l) rest) all in
    elim (cases_Bool (makes_literal_true values k)) [
      | inl t ↦ ap (makes_literal_true values) (same_literal l k parts.0) ∙ t
      | inr f ↦ repeated_true values l rest parts.1 (or_rest (makes_literal_true values k) (makes_true values rest) e f)
    ]

unit_clause_true : (values : List Bool) (l : ℤ) (rest : List ℤ) → list_all (int_eq l) rest ≡ true → makes_true values (l ∷ rest) ≡ true
    → makes_literal_true values l ≡ true
unit_clause_true values l rest all e =
    elim (cases_Bool (makes_literal_true values l)) [
      | inl t ↦ t
      | inr f ↦ repeated_true values l rest all (or_rest (makes_literal_true values l) (makes_true values rest) e f)
    ]

unit_true : (values : List Bool) (clauses : List (List ℤ)) (l : ℤ) → first_unit clauses ≡ Some l → makes_all_true values clauses ≡ true
    → makes_literal_true values l ≡ true
unit_true values [] l unit e = absurd (cc)
unit_true values ([] ∷ clauses) l unit e = absurd (false≢true e)
unit_true values ((k ∷ rest) ∷ clauses) l unit e =
    let parts = and_parts (makes_true values (k ∷ rest)) (makes_all_true values clauses) e in
    elim (cases_Bool (list_all (int_eq k) rest)) [
      | inl one ↦
          let is_k : Some k ≡ Some l = sym (first_unit-here k rest clauses one) ∙ unit in
          let same : k ≡ l = cc is_k in
          ap (makes_literal_true values) (sym same) ∙ unit_clause_true values k rest one parts.0
      | inr more ↦ unit_true values clauses l (sym (first_unit-later k rest clauses more) ∙ unit) parts.1
    ]

-- what is struck out is false
struck_true : (values : List Bool) (l : ℤ) (c : List ℤ) → makes_literal_true values l ≡ true → makes_true values c ≡ true
    → makes_true values (without (neg_ℤ l) c) ≡ true
struck_true values l [] t e = e
struck_true values l (k ∷ c) t e =
    elim (cases_Bool (int_eq (neg_ℤ l) k)) [
      | inl struck ↦
          let false_k : makes_literal_true values k ≡ false = ap (makes_literal_true values) (sym (same_literal (neg_ℤ l) k struck))
          ∙ negation_false values l t in
          ap (makes_true values) (without-dropped (neg_ℤ l) k c struck)
          ∙ struck_true values l c t (or_rest (makes_literal_true values k) (makes_true values c) e false_k)
      | inr kept ↦
          ap (makes_true values) (without-kept (neg_ℤ l) k c kept)
          ∙ elim (cases_Bool (makes_literal_true values k)) [
            | inl true_k ↦ or_left (makes_literal_true values k) (makes_true values (without (neg_ℤ l) c)) true_k
            | inr false_k ↦
                or_right (makes_literal_true values k) (makes_true values (without (neg_ℤ l) c))
                (struck_true values l c t (or_rest (makes_literal_true values k) (makes_true values c) e false_k))
          ]
    ]

given_true : (values : List Bool) (l : ℤ) (clauses : List (List ℤ)) → makes_literal_true values l ≡ true → makes_all_true values clauses ≡ true
    → makes_all_true values (given l clauses) ≡ true
given_true values l [] t e = refl
given_true values l (c ∷ clauses) t e =
    let parts = and_parts (makes_true values c) (makes_all_true values clauses) e in
    elim (cases_Bool (holds c l)) [
      | inl dropped ↦ ap (makes_all_true values) (given-dropped l c clauses dropped) ∙ given_true values l clauses t parts.1
      | inr kept ↦
          ap (makes_all_true values) (given-kept l c clauses kept)
          ∙ and_from (makes_true values (without (neg_ℤ l) c)) (makes_all_true values (given l clauses))
          (struck_true values l c t parts.0) (given_true values l clauses t parts.1)
    ]

-- ---- propagation

none_below : (l : ℤ) (o : Option (List ℤ)) → option_map (λ more. l ∷ more) o ≡ None → o ≡ None
none_below l None e = refl
none_below l (Some ls) e = absurd (cc)

-- clauses from which an empty one is reached have no model
pub propagated_in-sound : (steps : ℕ) (values : List Bool) (clauses : List (List ℤ)) → propagated_in steps clauses ≡ None
    → makes_all_true values clauses ≡ false
propagated_in-sound zero values clauses e =
    elim (cases_Bool (has_empty clauses)) [
      | inl empty ↦ empty_false values clauses empty
      | inr none ↦ let no : None ≡ Some [] = sym e ∙ propagated-out clauses none in absurd (cc no)
    ]
propagated_in-sound (suc steps) values clauses e =
    elim (cases_Bool (has_empty clauses)) [
      | inl empty ↦ empty_false values clauses empty
      | inr none ↦
          elim (cases_Option (first_unit clauses)) [
            | inl no_unit ↦ let no : None ≡ Some [] = sym e ∙ propagated-done (suc steps) clauses none no_unit in absurd (cc no)
            | inr unit ↦
                let smaller = propagated_in-sound steps values (given unit.0 clauses)
                (none_below unit.0 (propagated_in steps (given unit.0 clauses)) (sym (propagated-unit steps clauses unit.0 none unit.1) ∙ e)) in
                elim (cases_Bool (makes_all_true values clauses)) [
                  | inl t ↦
                      clash (makes_all_true values (given unit.0 clauses)) (given_true values unit.0 clauses
                      (unit_true values clauses unit.0 unit.1 t) t) smaller
                  | inr f ↦ f
                ]
          ]
    ]

-- ---- what follows

test_at : (p : ℤ → Bool) (l : ℤ) (c : List ℤ) → holds c l ≡ true → list_all p c ≡ true → p l ≡ true
test_at p l [] here all = absurd (false≢true here)
test_at p l (k ∷ c) here all =
    let parts = and_parts (p k) (list_all p c) all in
    elim (cases_Bool (int_eq l k)) [
      | inl is_k ↦ ap p (same_literal l k is_k) ∙ parts.0
      | inr not_k ↦ test_at p l c (or_rest (int_eq l k) (holds c l) here not_k) parts.1
    ]

-- 0 would be its own negation
pub clause-nonzero : (c : List ℤ) → is_clause c ≡ true → holds c (pos 0) ≡ false
clause-nonzero c clause =
    elim (cases_Bool (holds c (pos 0))) [
      | inl zero_in ↦ absurd (true≢false (sym zero_in ∙ not_true_back (holds c (pos 0)) (test_at (λ l. not (holds c (neg_ℤ l))) (pos 0) c zero_in clause)))
      | inr zero_out ↦ zero_out
    ]

falsified_true : (values : List Bool) (c : List ℤ) → holds c (pos 0) ≡ false → makes_true values c ≡ false → makes_all_true values (falsified c) ≡ true
falsified_true values [] no_zero e = refl
falsified_true values (l ∷ c) no_zero e =
    let zeros = or_parts (int_eq (pos 0) l) (holds c (pos 0)) no_zero in
    let falses = or_parts (makes_literal_true values l) (makes_true values c) e in
    and_from (makes_true values (neg_ℤ l ∷ [])) (makes_all_true values (falsified c))
    (or_left (makes_literal_true values (neg_ℤ l)) false (negation_true values l zeros.0 falses.0)) (falsified_true values c zeros.1 falses.1)

none_from : {A : Type 0} (o : Option A) → is_none o ≡ true → o ≡ None
none_from None e = refl
none_from (Some x) e = absurd (false≢true e)

-- what follows by unit propagation is true in each model
pub follows-sound : (values : List Bool) (clauses : List (List ℤ)) (c : List ℤ) → follows clauses c ≡ true → makes_all_true values clauses ≡ true
    → makes_true values c ≡ true
follows-sound values clauses c e model =
    let parts = and_parts (is_clause c) (is_none (propagated (falsified c ++ clauses))) e in
    let no_model = propagated_in-sound (length (falsified c ++ clauses)) values (falsified c ++ clauses)
    (none_from (propagated (falsified c ++ clauses)) parts.1) in
    elim (cases_Bool (makes_true values c)) [
      | inl t ↦ t
      | inr f ↦
          let all = and_from (makes_all_true values (falsified c)) (makes_all_true values clauses)
          (falsified_true values c (clause-nonzero c parts.0) f) model in
          clash (makes_all_true values (falsified c ++ clauses)) (list_all-append (makes_true values) (falsified c) clauses ∙ all) no_model
    ]

one_more_true : (values : List Bool) (clauses : List (List ℤ)) (c : List ℤ) → makes_all_true values clauses ≡ true → makes_true values c ≡ true
    → makes_all_true values (clauses ++ c ∷ []) ≡ true
one_more_true values clauses c model here =
    list_all-append (makes_true values) clauses (c ∷ [])
    ∙ and_from (makes_all_true values clauses) (makes_all_true values (c ∷ [])) model (and_from (makes_true values c) true here refl)

-- where the rest follows in turn too
followed : (clauses : List (List ℤ)) (c : List ℤ) (steps : List (List ℤ)) → first_unfollowed clauses (c ∷ steps) ≡ None →
    (follows clauses c ≡ true) × (first_unfollowed (clauses ++ c ∷ []) steps ≡ None)
followed clauses c steps e =
    elim (cases_Bool (follows clauses c)) [
      | inl here ↦ (here, none_numbered (first_unfollowed (clauses ++ c ∷ []) steps) (sym (unfollowed-later clauses c steps here) ∙ e))
      | inr not_here ↦ let no : None ≡ Some 1 = sym e ∙ unfollowed-here clauses c steps not_here in absurd (cc no)
    ]

in_turn-sound : (values : List Bool) (clauses steps : List (List ℤ)) → first_unfollowed clauses steps ≡ None → ends_empty steps ≡ true
    → makes_all_true values clauses ≡ true → ⊥
in_turn-sound values clauses [] each last model = false≢true last
in_turn-sound values clauses ([] ∷ []) each last model =
    false≢true (follows-sound values clauses [] (followed clauses [] [] each).0 model)
in_turn-sound values clauses ((l ∷ rest) ∷ []) each last model = false≢true last
in_turn-sound values clauses (c ∷ d ∷ steps) each last model =
    let parts = followed clauses c (d ∷ steps) each in
    in_turn-sound values (clauses ++ c ∷ []) (d ∷ steps) parts.1 last (one_more_true values clauses c model (follows-sound values clauses c parts.0 model))

-- refuted clauses have no model
pub refutation-sound : (clauses steps : List (List ℤ)) → IsRefutation clauses steps → (values : List Bool) → makes_all_true values clauses ≡ false
refutation-sound clauses steps good values =
    elim (cases_Bool (makes_all_true values clauses)) [
      | inl model ↦ absurd (in_turn-sound values clauses steps (none_from (first_unfollowed clauses steps) (ap not good.each_follows)) good.ends model)
      | inr none ↦ none
    ]

pub IsRefutation-IsModel : (set : ClauseSet) (steps : List (List ℤ)) (values : List Bool) → IsRefutation set.clauses steps → ¬ IsModel values set
IsRefutation-IsModel set steps values good model =
    in_turn-sound values set.clauses steps (none_from (first_unfollowed set.clauses steps) (ap not good.each_follows)) good.ends model.each_clause
