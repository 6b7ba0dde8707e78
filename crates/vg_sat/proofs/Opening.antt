-- Where a clause doesn't follow, literals settle the clauses while its own are false.
use Rattle.std.proofs.Common.{◌≡◌, ℕ, List, [], ◌∷◌, ◌++◌, length, true, false, refl, ap, ◌∙◌, inl, inr, arith}
use Rattle.std.specs.Prelude.{ℤ, pos, neg_ℤ, All, is_none}
use Rattle.std.specs.Ordering.{int_eq}
use Rattle.std.proofs.Math.IntN.{neg_ℤ-neg_ℤ}
use Rattle.std.proofs.lemmas.Bool.{cases_Bool, and_from, or_cases, or_parts, or_from, false≢true}
use Rattle.std.proofs.lemmas.List.Elements.{All-head, All-tail}
use Rattle.vg_cnf.specs.Clauses.{holds, is_clause, IsClauseOver}
use Rattle.vg_cnf.specs.Orders.{Settled, negations, occurs}
use Rattle.vg_cnf.specs.Propagation.{propagated, falsified, follows}
use Rattle.vg_cnf.proofs.Steps.{clash, same_literal, same_test, cases_Option}
use Rattle.vg_cnf.proofs.Soundness.{clause-nonzero}
use Rattle.vg_cnf.proofs.Settled.{settled-unit, propagated-settles}
use Rattle.vg_cnf.proofs.Orders.{settled-follows}
use Rattle.vg_units.specs.Propagating.{AreWithin}
use Rattle.vg_units.proofs.Assuming.{negations_within}
use Rattle.vg_units.proofs.Reaching.{over-nonzero}
use Rattle.vg_sat.specs.Learned.{LeavesOpen}

negation_nonzero : (l : ℤ) → int_eq (pos 0) l ≡ false → int_eq (pos 0) (neg_ℤ l) ≡ false
negation_nonzero l e =
    elim (cases_Bool (int_eq (pos 0) (neg_ℤ l))) [
      | inl is_zero ↦ clash (int_eq (pos 0) l) (same_test (pos 0) l (ap neg_ℤ (same_literal (pos 0) (neg_ℤ l) is_zero) ∙ neg_ℤ-neg_ℤ l)) e
      | inr not_zero ↦ not_zero
    ]

falsified_nonzero : (c : List ℤ) (cs : List (List ℤ)) → holds c (pos 0) ≡ false → occurs cs (pos 0) ≡ false → occurs (falsified c ++ cs) (pos 0) ≡ false
falsified_nonzero [] cs nonzero none = none
falsified_nonzero (l ∷ c) cs nonzero none =
    let parts = or_parts (int_eq (pos 0) l) (holds c (pos 0)) nonzero in
    or_from (holds (neg_ℤ l ∷ []) (pos 0)) (occurs (falsified c ++ cs) (pos 0))
    (or_from (int_eq (pos 0) (neg_ℤ l)) false (negation_nonzero l parts.0) refl) (falsified_nonzero c cs parts.1 none)

-- literals that settle the clauses which say that a clause's are false hold those negations
falsified_settled : (ls c : List ℤ) (cs : List (List ℤ)) → All (Settled ls) (falsified c ++ cs) → AreWithin (negations c) ls × All (Settled ls) cs
falsified_settled ls [] cs all = ((λ k e. absurd (false≢true e)), all)
falsified_settled ls (l ∷ c) cs all =
    let here = settled-unit ls (neg_ℤ l) [] refl (All-head (Settled ls) (neg_ℤ l ∷ []) (falsified c ++ cs) all) in
    let rest = falsified_settled ls c cs (All-tail (Settled ls) (neg_ℤ l ∷ []) (falsified c ++ cs) all) in (
      λ k e.
          elim (or_cases (int_eq k (neg_ℤ l)) (holds (negations c) k) e) [
            | inl is_l ↦ ap (holds ls) (same_literal k (neg_ℤ l) is_l) ∙ here
            | inr later ↦ rest.0 k later
          ],
      rest.1,
    )

open_left : (v : ℕ) (cs : List (List ℤ)) (c : List ℤ) → All (IsClauseOver v) cs → IsClauseOver v c → follows cs c ≡ false → LeavesOpen cs c
open_left v cs c all over unfollowed =
    elim (cases_Option (propagated (falsified c ++ cs))) [
      | inl none ↦ clash (follows cs c) (and_from (is_clause c) (is_none (propagated (falsified c ++ cs))) over.clause (ap is_none none)) unfollowed
      | inr some ↦
          let settles =
          propagated-settles (length (falsified c ++ cs)) (falsified c ++ cs) some.0 (omega arith)
          (falsified_nonzero c cs (clause-nonzero c over.clause) (over-nonzero v cs all)) some.1 in
          let parts = falsified_settled some.0 c cs settles.1 in
          record { made = some.0; consistent = settles.0; settled = parts.1; falses = parts.0 }
    ]

-- with a clause that follows, each clause of more literals does
pub follows_more : (v : ℕ) (cs : List (List ℤ)) (few many : List ℤ) → All (IsClauseOver v) cs → AreWithin few many → IsClauseOver v many
    → follows cs few ≡ true → follows cs many ≡ true
follows_more v cs few many all within over few_follows =
    elim (cases_Bool (follows cs many)) [
      | inl followed ↦ followed
      | inr unfollowed ↦
          let h = open_left v cs many all over unfollowed in
          clash (follows cs few) few_follows (settled-follows cs few h.made h.consistent h.settled (λ k e. h.falses k (negations_within few many within k e)))
    ]
