-- The truth of literals and clauses under values, and under more values.
use Rattle.std.proofs.Common.{◌≡◌, ℕ, zero, suc, ◌+◌, ◌<◌, List, [], ◌∷◌, ◌++◌, length, Bool, true, false, refl, sym, ap, subst, ◌∙◌, inl, inr, arith}
use Rattle.std.proofs.Common.{add-one, All}
use Rattle.std.specs.Prelude.{ℤ, pos, negsuc, neg_ℤ, unsigned_abs, not, ◌&&◌, ◌||◌, slice_index_or}
use Rattle.std.specs.List.{list_all}
use Rattle.std.specs.Ordering.{int_eq}
use Rattle.std.proofs.lemmas.Bool.{cases_Bool, and_from, or_parts, or_left, or_right, false≢true}
use Rattle.std.proofs.lemmas.List.{get_or_append_left}
use Rattle.std.proofs.Math.Seq.{get_or-append_seam}
use Rattle.std.proofs.lemmas.List.Elements.{All-head, All-tail}
use Rattle.vg_cnf.specs.Clauses.{ClauseSet, IsOver, IsClauseOver, holds, is_clause, makes_true, makes_all_true}
use Rattle.vg_cnf.proofs.Steps.{same_literal, clash}
use Rattle.vg_blast.specs.Circuits.{truth, Holds}

pub not_not : (b : Bool) → not (not b) ≡ b
not_not true = refl
not_not false = refl

-- a negation is true where the literal isn't
pub truth_neg : (v : List Bool) (l : ℤ) → 0 < unsigned_abs l → truth v (neg_ℤ l) ≡ not (truth v l)
truth_neg v (pos zero) h = let none : ⊥ = omega (arith, h) in absurd none
truth_neg v (pos (suc n)) h = refl
truth_neg v (negsuc n) h = sym (not_not (slice_index_or v n false))

-- ---- a list with a literal and its negation is true

holds_true : (v : List Bool) (c : List ℤ) (k : ℤ) → holds c k ≡ true → truth v k ≡ true → makes_true v c ≡ true
holds_true v [] k h t = absurd (false≢true h)
holds_true v (x ∷ c) k h t =
    elim (cases_Bool (int_eq k x)) [
      | inl same ↦ or_left (truth v x) (makes_true v c) (ap (truth v) (sym (same_literal k x same)) ∙ t)
      | inr other ↦ or_right (truth v x) (makes_true v c) (holds_true v c k (sym (ap (λ b. b || holds c k) other) ∙ h) t)
    ]

none_opposite : (v : List Bool) (n : ℕ) (whole c : List ℤ) → All (IsOver n) c → makes_true v whole ≡ false → makes_true v c ≡ false
    → list_all (λ l. not (holds whole (neg_ℤ l))) c ≡ true
none_opposite v n whole [] over f e = refl
none_opposite v n whole (l ∷ c) over f e =
    let falses = or_parts (truth v l) (makes_true v c) e in
    let rest = none_opposite v n whole c (All-tail (IsOver n) l c over) f falses.1 in
    let neg_true : truth v (neg_ℤ l) ≡ true = truth_neg v l (All-head (IsOver n) l c over).0 ∙ ap not falses.0 in
    elim (cases_Bool (holds whole (neg_ℤ l))) [
      | inl there ↦ clash (makes_true v whole) (holds_true v whole (neg_ℤ l) there neg_true) f
      | inr absent ↦ and_from (not (holds whole (neg_ℤ l))) (list_all (λ l. not (holds whole (neg_ℤ l))) c) (ap not absent) rest
    ]

pub tautology : (v : List Bool) (n : ℕ) (c : List ℤ) → All (IsOver n) c → is_clause c ≡ false → makes_true v c ≡ true
tautology v n c over e =
    elim (cases_Bool (makes_true v c)) [
      | inl t ↦ t
      | inr f ↦ clash (is_clause c) (none_opposite v n c c over f f) e
    ]

-- ---- more values

pub truth_more : (v more : List Bool) (l : ℤ) → IsOver (length v) l → truth (v ++ more) l ≡ truth v l
truth_more v more (pos zero) over = refl
truth_more v more (pos (suc n)) over = get_or_append_left v more false n (omega (arith, over.1))
truth_more v more (negsuc n) over = ap not (get_or_append_left v more false n (omega (arith, over.1)))

makes_true_more : (v more : List Bool) (c : List ℤ) → All (IsOver (length v)) c → makes_true (v ++ more) c ≡ makes_true v c
makes_true_more v more [] over = refl
makes_true_more v more (l ∷ c) over =
    (λ j. truth_more v more l (All-head (IsOver (length v)) l c over) j || makes_true_more v more c (All-tail (IsOver (length v)) l c over) j)

all_true_more : (v more : List Bool) (clauses : List (List ℤ)) → All (IsClauseOver (length v)) clauses
    → makes_all_true (v ++ more) clauses ≡ makes_all_true v clauses
all_true_more v more [] over = refl
all_true_more v more (c ∷ clauses) over =
    (λ j. makes_true_more v more c (All-head (IsClauseOver (length v)) c clauses over).over j && all_true_more v more clauses
    (All-tail (IsClauseOver (length v)) c clauses over) j)

pub holds_more : (v more : List Bool) (set : ClauseSet) → length v ≡ set.variables → All (IsClauseOver set.variables) set.clauses → Holds v set
    → Holds (v ++ more) set
holds_more v more set long over h = all_true_more v more set.clauses (subst (λ n. All (IsClauseOver n) set.clauses) (sym long) over) ∙ h

-- the value of a new variable
pub truth_new : (v : List Bool) (x : Bool) (n : ℕ) → length v ≡ n → truth (v ++ x ∷ []) (pos (n + 1)) ≡ x
truth_new v x n e =
    let is : pos (n + 1) ≡ pos (suc (length v)) = ap pos (add-one n ∙ ap suc (sym e)) in
    ap (truth (v ++ x ∷ [])) is ∙ get_or-append_seam v x [] false
