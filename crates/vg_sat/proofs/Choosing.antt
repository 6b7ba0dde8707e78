-- Variables that are true or false.
use Rattle.std.proofs.Common.{◌≡◌, ℕ, zero, suc, ◌+◌, ◌<◌, ◌≤◌, List, [], ◌∷◌, true, false, refl, sym, ap, ◌∙◌, inl, inr, ◌⊎◌, subst, arith}
use Rattle.std.specs.Prelude.{ℤ, pos, negsuc, neg_ℤ, Bool, not, All}
use Rattle.std.specs.Ordering.{int_eq}
use Rattle.std.proofs.lemmas.Bool.{or_left, or_right, or_cases, and_from, false≢true}
use Rattle.std.proofs.lemmas.List.Elements.{All-head, All-tail}
use Rattle.vg_cnf.specs.Clauses.{holds, IsOver, IsClauseOver, makes_literal_true, makes_true, makes_all_true}
use Rattle.vg_cnf.specs.Orders.{IsConsistent, Settled, by_true, by_two}
use Rattle.vg_cnf.proofs.Steps.{clash, same_literal}
use Rattle.vg_units.specs.Searching.{Search}
use Rattle.vg_units.proofs.Literals.{held_over}
use Rattle.vg_units.proofs.Listing.{same_or_other}
use Rattle.vg_sat.specs.Choices.{AreAssigned}
use Rattle.vg_sat.specs.Walks.{AreValues}

abbrev pub AreAssignedTo : List ℤ → ℕ → Type 0
AreAssignedTo trail n = (v : ℕ) → 0 < v → v ≤ n → (holds trail (pos v) ≡ true) ⊎ (holds trail (neg_ℤ (pos v)) ≡ true)

pub assigned_more : (trail : List ℤ) (n : ℕ) → (holds trail (pos (n + 1)) ≡ true) ⊎ (holds trail (neg_ℤ (pos (n + 1))) ≡ true) → AreAssignedTo trail n
    → AreAssignedTo trail (n + 1)
assigned_more trail n here before v some within =
    elim (same_or_other v (n + 1)) [
      | inl last ↦ subst (λ x. (holds trail (pos x) ≡ true) ⊎ (holds trail (neg_ℤ (pos x)) ≡ true)) (sym last) here
      | inr other ↦ before v some (omega (arith, within, other))
    ]

-- a literal that is not false is true, where each variable is one of both
unfalse : (s : Search) (l : ℤ) → AreAssigned s → IsOver s.variables l → holds s.trail (neg_ℤ l) ≡ false → holds s.trail l ≡ true
unfalse s (pos n) assigned over not_false =
    elim (assigned n over.0 over.1) [
      | inl t ↦ t
      | inr f ↦ clash (holds s.trail (neg_ℤ (pos n))) f not_false
    ]
unfalse s (negsuc n) assigned over not_false =
    elim (assigned (suc n) over.0 over.1) [
      | inl t ↦ clash (holds s.trail (pos (suc n))) t not_false
      | inr f ↦ f
    ]

-- a true literal has the value true
value_true : (s : Search) (values : List Bool) (l : ℤ) → IsConsistent s.trail → AreValues s values → IsOver s.variables l → holds s.trail l ≡ true
    → makes_literal_true values l ≡ true
value_true s values (pos zero) consistent are over t = absurd (omega (arith, over.0))
value_true s values (pos (suc n)) consistent are over t =
    let one : n + 1 ≡ suc n = omega arith in
    are.value n (omega (arith, over.1)) ∙ ap (λ m. holds s.trail (pos m)) one ∙ t
value_true s values (negsuc n) consistent are over t =
    let one : n + 1 ≡ suc n = omega arith in
    ap not (are.value n (omega (arith, over.1)) ∙ ap (λ m. holds s.trail (pos m)) one ∙ consistent (negsuc n) t)

clause_true : (values : List Bool) (c : List ℤ) (l : ℤ) → holds c l ≡ true → makes_literal_true values l ≡ true → makes_true values c ≡ true
clause_true values [] l held t = absurd (false≢true held)
clause_true values (x ∷ c) l held t =
    elim (or_cases (int_eq l x) (holds c l) held) [
      | inl here ↦ or_left (makes_literal_true values x) (makes_true values c) (ap (makes_literal_true values) (sym (same_literal l x here)) ∙ t)
      | inr later ↦ or_right (makes_literal_true values x) (makes_true values c) (clause_true values c l later t)
    ]

settled_true : (s : Search) (values : List Bool) (c : List ℤ) → IsConsistent s.trail → AreAssigned s → AreValues s values → All (IsOver s.variables) c
    → Settled s.trail c → makes_true values c ≡ true
settled_true s values c consistent assigned are over (by_true l held t) =
    clause_true values c l held (value_true s values l consistent are (held_over s.variables c l over held) t)
settled_true s values c consistent assigned are over (by_two k l here there apart p q) =
    let k_over = held_over s.variables c k over here in
    clause_true values c k here (value_true s values k consistent are k_over (unfalse s k assigned k_over p))

pub all_true : (s : Search) (values : List Bool) (cs : List (List ℤ)) → IsConsistent s.trail → AreAssigned s → AreValues s values
    → All (IsClauseOver s.variables) cs → All (Settled s.trail) cs →
    makes_all_true values cs ≡ true
all_true s values [] consistent assigned are over settled = refl
all_true s values (c ∷ cs) consistent assigned are over settled =
    and_from (makes_true values c) (makes_all_true values cs)
    (settled_true s values c consistent assigned are (All-head (IsClauseOver s.variables) c cs over).over (All-head (Settled s.trail) c cs settled))
    (all_true s values cs consistent assigned are (All-tail (IsClauseOver s.variables) c cs over) (All-tail (Settled s.trail) c cs settled))
