-- A checker may take units in any order: it reaches an empty clause exactly where `follows` says so.
use Rattle.std.proofs.Common.{◌≡◌, List, [], ◌∷◌, ◌++◌, length, None, true, false, refl, sym, ap, subst, ◌∙◌, inl, inr, arith}
use Rattle.std.specs.Prelude.{ℤ, pos, neg_ℤ, is_none, All, Contains}
use Rattle.std.specs.Ordering.{int_eq}
use Rattle.std.proofs.Math.IntN.{neg_ℤ-neg_ℤ}
use Rattle.std.proofs.lemmas.Bool.{cases_Bool, and_from, and_right, or_parts, or_left, or_right, or_from, true≢false, false≢true}
use Rattle.std.proofs.lemmas.List.Elements.{All-cons, All-head, All-tail}
use Rattle.vg_cnf.specs.Clauses.{holds, is_clause}
use Rattle.vg_cnf.specs.Orders.{IsConsistent, Settled, by_true, by_two, Reaches, conflict, unit, occurs, negations}
use Rattle.vg_cnf.specs.Propagation.{propagated, falsified, follows}
use Rattle.vg_cnf.proofs.Steps.{clash, or_rest, same_literal, same_test, cases_Option}
use Rattle.vg_cnf.proofs.Soundness.{clause-nonzero}
use Rattle.vg_cnf.proofs.Settled.{settled-unit, settled-propagated, propagated-settles}

settled-at : (ls c : List ℤ) (clauses : List (List ℤ)) → Contains clauses c → All (Settled ls) clauses → Settled ls c
settled-at ls c clauses at all = subst (Settled ls) at.2 (all at.0 c at.1)

no_conflict : (ls made c : List ℤ) → IsConsistent ls → ((l : ℤ) → holds made l ≡ true → holds ls l ≡ true) → Settled ls c
    → ((k : ℤ) → holds c k ≡ true → holds made (neg_ℤ k) ≡ true) → ⊥
no_conflict ls made c consistent within (by_true l here t) falses =
    true≢false (sym (within (neg_ℤ l) (falses l here)) ∙ consistent l t)
no_conflict ls made c consistent within (by_two k l here there apart p q) falses =
    true≢false (sym (within (neg_ℤ k) (falses k here)) ∙ p)

unit_within : (ls made c : List ℤ) (l : ℤ) → IsConsistent ls → ((k : ℤ) → holds made k ≡ true → holds ls k ≡ true) → Settled ls c →
    ((k : ℤ) → holds c k ≡ true → int_eq k l ≡ false → holds made (neg_ℤ k) ≡ true) → holds ls l ≡ true
unit_within ls made c l consistent within (by_true k here t) falses =
    elim (cases_Bool (int_eq k l)) [
      | inl is_l ↦ ap (holds ls) (sym (same_literal k l is_l)) ∙ t
      | inr other ↦ absurd (true≢false (sym (within (neg_ℤ k) (falses k here other)) ∙ consistent k t))
    ]
unit_within ls made c l consistent within (by_two x y here there apart p q) falses =
    elim (cases_Bool (int_eq x l)) [
      | inl x_is ↦
          elim (cases_Bool (int_eq y l)) [
            | inl y_is ↦ clash (int_eq x y) (same_test x y (same_literal x l x_is ∙ sym (same_literal y l y_is))) apart
            | inr other ↦ absurd (true≢false (sym (within (neg_ℤ y) (falses y there other)) ∙ q))
          ]
      | inr other ↦ absurd (true≢false (sym (within (neg_ℤ x) (falses x here other)) ∙ p))
    ]

within_more : (ls made : List ℤ) (l : ℤ) → holds ls l ≡ true → ((k : ℤ) → holds made k ≡ true → holds ls k ≡ true) → (k : ℤ)
    → holds (l ∷ made) k ≡ true → holds ls k ≡ true
within_more ls made l here within k e =
    elim (cases_Bool (int_eq k l)) [
      | inl is_l ↦ ap (holds ls) (same_literal k l is_l) ∙ here
      | inr other ↦ within k (or_rest (int_eq k l) (holds made k) e other)
    ]

-- where literals settle the clauses, no order of units reaches an empty one
pub settled-reaches : (ls : List ℤ) (clauses : List (List ℤ)) (made : List ℤ) → IsConsistent ls → All (Settled ls) clauses
    → ((k : ℤ) → holds made k ≡ true → holds ls k ≡ true) → Reaches clauses made → ⊥
settled-reaches ls clauses made consistent all within (conflict c at falses) =
    no_conflict ls made c consistent within (settled-at ls c clauses at all) falses
settled-reaches ls clauses made consistent all within (unit c l at falses rest) =
    settled-reaches ls clauses (l ∷ made) consistent all
    (within_more ls made l (unit_within ls made c l consistent within (settled-at ls c clauses at all) falses) within) rest

-- ---- assumptions

falsified-settled : (ls c : List ℤ) (clauses : List (List ℤ)) → All (Settled ls) (falsified c ++ clauses) →
    ((k : ℤ) → holds (negations c) k ≡ true → holds ls k ≡ true) × All (Settled ls) clauses
falsified-settled ls [] clauses all = ((λ k e. absurd (false≢true e)), all)
falsified-settled ls (l ∷ c) clauses all =
    let here = settled-unit ls (neg_ℤ l) [] refl (All-head (Settled ls) (neg_ℤ l ∷ []) (falsified c ++ clauses) all) in
    let rest = falsified-settled ls c clauses (All-tail (Settled ls) (neg_ℤ l ∷ []) (falsified c ++ clauses) all) in
    (within_more ls (negations c) (neg_ℤ l) here rest.0, rest.1)

pub settled-falsified : (made c : List ℤ) (clauses : List (List ℤ)) → ((k : ℤ) → holds (negations c) k ≡ true → holds made k ≡ true)
    → All (Settled made) clauses →
    All (Settled made) (falsified c ++ clauses)
settled-falsified made [] clauses within all = all
settled-falsified made (l ∷ c) clauses within all =
    All-cons (Settled made) (neg_ℤ l ∷ []) (falsified c ++ clauses)
    (by_true (neg_ℤ l) (or_left (int_eq (neg_ℤ l) (neg_ℤ l)) false (same_test (neg_ℤ l) (neg_ℤ l) refl))
    (within (neg_ℤ l) (or_left (int_eq (neg_ℤ l) (neg_ℤ l)) (holds (negations c) (neg_ℤ l)) (same_test (neg_ℤ l) (neg_ℤ l) refl))))
    (settled-falsified made c clauses (λ k e. within k (or_later k (neg_ℤ l) (negations c) e)) all)
  where
    or_later : (k x : ℤ) (xs : List ℤ) → holds xs k ≡ true → holds (x ∷ xs) k ≡ true
    or_later k x xs e = or_right (int_eq k x) (holds xs k) e

negation-nonzero : (l : ℤ) → int_eq (pos 0) l ≡ false → int_eq (pos 0) (neg_ℤ l) ≡ false
negation-nonzero l e =
    elim (cases_Bool (int_eq (pos 0) (neg_ℤ l))) [
      | inl is_zero ↦
          let zero_l : pos 0 ≡ l = ap neg_ℤ (same_literal (pos 0) (neg_ℤ l) is_zero) ∙ neg_ℤ-neg_ℤ l in
          clash (int_eq (pos 0) l) (same_test (pos 0) l zero_l) e
      | inr not_zero ↦ not_zero
    ]

falsified-nonzero : (c : List ℤ) (clauses : List (List ℤ)) → holds c (pos 0) ≡ false → occurs clauses (pos 0) ≡ false
    → occurs (falsified c ++ clauses) (pos 0) ≡ false
falsified-nonzero [] clauses no_zero none = none
falsified-nonzero (l ∷ c) clauses no_zero none =
    let parts = or_parts (int_eq (pos 0) l) (holds c (pos 0)) no_zero in
    or_from (holds (neg_ℤ l ∷ []) (pos 0)) (occurs (falsified c ++ clauses) (pos 0))
    (or_from (int_eq (pos 0) (neg_ℤ l)) false (negation-nonzero l parts.0) refl) (falsified-nonzero c clauses parts.1 none)

-- what some order of units reaches from the negations of a clause's literals, the recursion reaches
pub reaches-propagated : (clauses : List (List ℤ)) (c : List ℤ) → occurs clauses (pos 0) ≡ false → holds c (pos 0) ≡ false → Reaches clauses (negations c) →
    propagated (falsified c ++ clauses) ≡ None
reaches-propagated clauses c no_zero nonzero reaches =
    elim (cases_Option (propagated (falsified c ++ clauses))) [
      | inl none ↦ none
      | inr some ↦
          let settles = propagated-settles (length (falsified c ++ clauses)) (falsified c ++ clauses) some.0 (omega arith)
          (falsified-nonzero c clauses nonzero no_zero) some.1 in
          let parts = falsified-settled some.0 c clauses settles.1 in
          absurd (settled-reaches some.0 clauses (negations c) settles.0 parts.1 parts.0 reaches)
    ]

pub reaches-follows : (clauses : List (List ℤ)) (c : List ℤ) → occurs clauses (pos 0) ≡ false → is_clause c ≡ true → Reaches clauses (negations c)
    → follows clauses c ≡ true
reaches-follows clauses c no_zero clause reaches =
    and_from (is_clause c) (is_none (propagated (falsified c ++ clauses))) clause
    (ap is_none (reaches-propagated clauses c no_zero (clause-nonzero c clause) reaches))

-- and a clause whose literals are false where all clauses are settled doesn't follow
pub settled-follows : (clauses : List (List ℤ)) (c made : List ℤ) → IsConsistent made → All (Settled made) clauses
    → ((k : ℤ) → holds (negations c) k ≡ true → holds made k ≡ true) → follows clauses c ≡ false
settled-follows clauses c made consistent all within =
    let some = settled-propagated (length (falsified c ++ clauses)) made (falsified c ++ clauses) consistent (settled-falsified made c clauses within all) in
    and_right (is_clause c) (is_none (propagated (falsified c ++ clauses))) (ap is_none some.1)
