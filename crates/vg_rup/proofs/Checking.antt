-- Steps in turn: what one that follows, or doesn't, says of the first that doesn't.
use Rattle.std.proofs.Common.{◌≡◌, ℕ, zero, suc, ◌+◌, ◌<◌, ◌≤◌, List, [], ◌∷◌, ◌++◌, length, drop, get_or, Option, Some, None, Bool, true, false}
use Rattle.std.proofs.Common.{refl, sym, ap, ◌∙◌, inl, inr, arith}
use Rattle.std.specs.Prelude.{ℤ, pos, neg_ℤ, not, IsTrue, slice_get, is_none, ◌&&◌, ◌||◌, ◌==◌}
use Rattle.std.specs.Option.{option_map}
use Rattle.std.specs.Ordering.{int_eq}
use Rattle.std.specs.List.{list_all}
use Rattle.std.proofs.Math.IntN.{neg_ℤ-neg_ℤ}
use Rattle.std.proofs.lemmas.Bool.{cases_Bool, and_parts, or_from, false≢true}
use Rattle.std.proofs.lemmas.Bool.Decides.{nat_tests}
use Rattle.std.proofs.lemmas.List.{drop_all}
use Rattle.std.proofs.lemmas.List.Folds.{list_any-append}
use Rattle.vg_cnf.specs.Clauses.{holds, is_clause}
use Rattle.vg_cnf.specs.Propagation.{follows, propagated, falsified}
use Rattle.vg_cnf.specs.Refutations.{first_unfollowed, ends_empty}
use Rattle.vg_cnf.proofs.Truth.{drop-at}
use Rattle.vg_cnf.proofs.Steps.{clash, or_rest, same_literal, same_test, not_true_back, unfollowed-here, unfollowed-later}
use Rattle.vg_cnf.proofs.Soundness.{clause-nonzero}
use Rattle.vg_cnf.specs.Orders.{IsConsistent, occurs, negations}
use Rattle.vg_cnf.proofs.Orders.{reaches-follows, settled-follows}
use Rattle.vg_rup.specs.Assignment.{SameLiterals}
use Rattle.vg_rup.specs.Propagation.{Propagates}
use Rattle.vg_rup.proofs.Passing.{Reaches-more}

-- ---- lists that don't name 0

pub nonzero_pushed : (lists more : List (List ℤ)) (c : List ℤ) → more ≡ lists ++ c ∷ [] → occurs lists (pos 0) ≡ false → is_clause c ≡ true
    → occurs more (pos 0) ≡ false
nonzero_pushed lists more c e none clause =
    ap (λ cs. occurs cs (pos 0)) e
    ∙ list_any-append (λ d. holds d (pos 0)) lists (c ∷ [])
    ∙ or_from (occurs lists (pos 0)) (occurs (c ∷ []) (pos 0)) none (or_from (holds c (pos 0)) false (clause-nonzero c clause) refl)

-- ---- one list

negation_swap : (k x : ℤ) → int_eq k (neg_ℤ x) ≡ int_eq (neg_ℤ k) x
negation_swap k x =
    elim (cases_Bool (int_eq k (neg_ℤ x))) [
      | inl same ↦ same ∙ sym (same_test (neg_ℤ k) x (ap neg_ℤ (same_literal k (neg_ℤ x) same) ∙ neg_ℤ-neg_ℤ x))
      | inr apart ↦
          elim (cases_Bool (int_eq (neg_ℤ k) x)) [
            | inl same ↦
                clash (int_eq k (neg_ℤ x)) (same_test k (neg_ℤ x) (sym (neg_ℤ-neg_ℤ k) ∙ ap neg_ℤ (same_literal (neg_ℤ k) x same))) apart
            | inr other ↦ apart ∙ sym other
          ]
    ]

holds-negations : (c : List ℤ) (k : ℤ) → holds (negations c) k ≡ holds c (neg_ℤ k)
holds-negations [] k = refl
holds-negations (x ∷ c) k =
    ap (λ b. b || holds (negations c) k) (negation_swap k x) ∙ ap (λ b. int_eq (neg_ℤ k) x || b) (holds-negations c k)

test_at : (p : ℤ → Bool) (l : ℤ) (c : List ℤ) → holds c l ≡ true → list_all p c ≡ true → p l ≡ true
test_at p l [] here all = absurd (false≢true here)
test_at p l (k ∷ c) here all =
    let parts = and_parts (p k) (list_all p c) all in
    elim (cases_Bool (int_eq l k)) [
      | inl is_k ↦ ap p (same_literal l k is_k) ∙ parts.0
      | inr not_k ↦ test_at p l c (or_rest (int_eq l k) (holds c l) here not_k) parts.1
    ]

-- the negations of a clause's literals contradict one another nowhere
pub negations-consistent : (made c : List ℤ) → is_clause c ≡ true → SameLiterals made (negations c) → IsConsistent made
negations-consistent made c clause same k e =
    same (neg_ℤ k)
    ∙ holds-negations c (neg_ℤ k)
    ∙ not_true_back (holds c (neg_ℤ (neg_ℤ k)))
    (test_at (λ l. not (holds c (neg_ℤ l))) (neg_ℤ k) c (sym (same k ∙ holds-negations c k) ∙ e) clause)

-- what propagation from the negations answers is whether the clause follows
pub propagates-follows : (clauses : List (List ℤ)) (c made new : List ℤ) (answer : Bool) → occurs clauses (pos 0) ≡ false → is_clause c ≡ true
    → SameLiterals made (negations c) →
    Propagates clauses made new answer → answer ≡ follows clauses c
propagates-follows clauses c made new true nonzero clause same reaches =
    sym (reaches-follows clauses c nonzero clause (Reaches-more clauses made (negations c) (λ k e. sym (same k) ∙ e) reaches))
propagates-follows clauses c made new false nonzero clause same rests =
    sym (settled-follows clauses c new rests.0.consistent rests.1 (λ k e. rests.0.keeps k (same k ∙ e)))

pub no_clause_follows : (clauses : List (List ℤ)) (c : List ℤ) → is_clause c ≡ false → follows clauses c ≡ false
no_clause_follows clauses c e = ap (λ b. b && is_none (propagated (falsified c ++ clauses))) e

-- ---- lists in turn

pub follows-clause : (clauses : List (List ℤ)) (c : List ℤ) → follows clauses c ≡ true → is_clause c ≡ true
follows-clause clauses c e = (and_parts (is_clause c) (is_none (propagated (falsified c ++ clauses))) e).0

-- the number of the first that doesn't follow, counted on from a place
abbrev pub counted_from : ℕ → Option ℕ → Option ℕ
counted_from at number = option_map (λ n. n + at) number

pub counted_from-zero : (number : Option ℕ) → number ≡ counted_from 0 number
counted_from-zero None = refl
counted_from-zero (Some n) = let e : n ≡ n + 0 = omega arith in ap Some e

counted_on : (at : ℕ) (number : Option ℕ) → counted_from at (option_map (λ n. n + 1) number) ≡ counted_from (at + 1) number
counted_on at None = refl
counted_on at (Some n) = let e : n + 1 + at ≡ n + (at + 1) = omega arith in ap Some e

pub step_follows : (known more steps : List (List ℤ)) (at : ℕ) (c : List ℤ) (number : Option ℕ) → slice_get steps at ≡ Some c → follows known c ≡ true
    → more ≡ known ++ c ∷ [] →
    number ≡ counted_from at (first_unfollowed known (drop at steps)) → number ≡ counted_from (at + 1) (first_unfollowed more (drop (at + 1) steps))
step_follows known more steps at c number here yes_it more_is before =
    before
    ∙ ap (λ rest. counted_from at (first_unfollowed known rest)) (drop-at steps at c here)
    ∙ ap (counted_from at) (unfollowed-later known c (drop (at + 1) steps) yes_it)
    ∙ counted_on at (first_unfollowed (known ++ c ∷ []) (drop (at + 1) steps))
    ∙ ap (λ cs. counted_from (at + 1) (first_unfollowed cs (drop (at + 1) steps))) (sym more_is)

pub step_fails : (known steps : List (List ℤ)) (at : ℕ) (c : List ℤ) (number : Option ℕ) → slice_get steps at ≡ Some c → follows known c ≡ false →
    number ≡ counted_from at (first_unfollowed known (drop at steps)) → number ≡ Some (at + 1)
step_fails known steps at c number here no_it before =
    before
    ∙ ap (λ rest. counted_from at (first_unfollowed known rest)) (drop-at steps at c here)
    ∙ ap (counted_from at) (unfollowed-here known c (drop (at + 1) steps) no_it)
    ∙ (let e : 1 + at ≡ at + 1 = omega arith in ap Some e)

pub steps_end : (known steps : List (List ℤ)) (at : ℕ) (number : Option ℕ) → length steps ≤ at
    → number ≡ counted_from at (first_unfollowed known (drop at steps)) → number ≡ None
steps_end known steps at number h before =
    before ∙ ap (λ rest. counted_from at (first_unfollowed known rest)) (drop_all at steps h)

-- ---- the last list

suc_not_zero : (n : ℕ) → (suc n == 0) ≡ false
suc_not_zero n = grind (arith, nat_tests)

pub nonempty : (steps : List (List ℤ)) → (steps ≡ [] → IsTrue false) → 0 < length steps
nonempty [] h = absurd (false≢true (h refl))
nonempty (c ∷ steps) h = omega arith

pub ends_at : (steps : List (List ℤ)) (n : ℕ) (last : List ℤ) → n + 1 ≡ length steps → get_or steps n last ≡ last → ends_empty steps ≡ (length last == 0)
ends_at [] n last h e = absurd (omega arith)
ends_at ([] ∷ []) zero last h e = ap (λ c. length c == 0) e
ends_at ((l ∷ rest) ∷ []) zero last h e = sym (suc_not_zero (length rest)) ∙ ap (λ c. length c == 0) e
ends_at (c ∷ []) (suc n) last h e = absurd (omega arith)
ends_at (c ∷ d ∷ steps) zero last h e = absurd (omega arith)
ends_at (c ∷ d ∷ steps) (suc n) last h e = ends_at (d ∷ steps) n last (omega arith) e
