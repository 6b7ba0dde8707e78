-- Passes over clauses: what is made true grows, and the clauses without a true literal become fewer.
use Rattle.std.proofs.Common.{◌≡◌, ℕ, zero, suc, ◌+◌, ◌<◌, ◌≤◌, List, [], ◌∷◌, ◌++◌, length, take, get_or, Some, Bool, true, false, refl, sym, ap}
use Rattle.std.proofs.Common.{subst, ◌∙◌, inl, inr, arith}
use Rattle.std.specs.Prelude.{ℤ, pos, negsuc, neg_ℤ, cond, not, All, Contains, slice_get, MatchBool, if◌then◌else◌}
use Rattle.std.specs.List.{list_any}
use Rattle.std.specs.Ordering.{int_eq}
use Rattle.std.proofs.lemmas.Bool.{cases_Bool, or_cases, or_left, or_right, or_from, or_parts, false≢true}
use Rattle.std.proofs.Math.IntN.{neg_ℤ-neg_ℤ}
use Rattle.std.proofs.lemmas.List.Sums.{sum_by-cons}
use Rattle.std.proofs.lemmas.List.Elements.{All-push}
use Rattle.std.proofs.lemmas.List.{take_more, take_all}
use Rattle.std.proofs.lemmas.Option.{slice_get_within, get_or_from_slice_get}
use Rattle.vg_cnf.specs.Clauses.{holds}
use Rattle.vg_cnf.proofs.Steps.{clash, same_literal, same_test}
use Rattle.vg_cnf.specs.Orders.{Settled, IsConsistent, occurs, Reaches, conflict, unit}
use Rattle.vg_rup.specs.Assignment.{SameLiterals}
use Rattle.vg_rup.specs.Propagation.{AreFalse, IsForced, Grows, Passes, open_clauses}
use Rattle.vg_rup.specs.declared.propagation.Pass.TheVariants as passes

-- ---- an empty clause that is reached from fewer literals is reached from more

within_cons : (a b : List ℤ) (l : ℤ) → ((k : ℤ) → holds a k ≡ true → holds b k ≡ true) → (k : ℤ) → holds (l ∷ a) k ≡ true → holds (l ∷ b) k ≡ true
within_cons a b l within k e =
    elim (or_cases (int_eq k l) (holds a k) e) [
      | inl here ↦ or_left (int_eq k l) (holds b k) here
      | inr later ↦ or_right (int_eq k l) (holds b k) (within k later)
    ]

pub Reaches-more : (clauses : List (List ℤ)) (a b : List ℤ) → ((k : ℤ) → holds a k ≡ true → holds b k ≡ true) → Reaches clauses a → Reaches clauses b
Reaches-more clauses a b within (conflict c at falses) = conflict c at (λ k e. within (neg_ℤ k) (falses k e))
Reaches-more clauses a b within (unit c l at falses rest) =
    unit c l at (λ k e other. within (neg_ℤ k) (falses k e other)) (Reaches-more clauses (l ∷ a) (l ∷ b) (within_cons a b l within) rest)

pub found : (clauses : List (List ℤ)) (at : ℕ) (c : List ℤ) → slice_get clauses at ≡ Some c → Contains clauses c
found clauses at c e = (at, slice_get_within clauses at c e, get_or_from_slice_get clauses at c c e)

-- ---- literals made true

pub Grows-refl : (clauses : List (List ℤ)) (made : List ℤ) → IsConsistent made → Grows clauses made made
Grows-refl clauses made consistent = record { keeps = λ k e. e; consistent = consistent; reaches = λ r. r }

pub Grows-trans : (clauses : List (List ℤ)) (a b c : List ℤ) → Grows clauses a b → Grows clauses b c → Grows clauses a c
Grows-trans clauses a b c first more =
    record {
      keeps = λ k e. more.keeps k (first.keeps k e);
      consistent = more.consistent;
      reaches = λ r. first.reaches (more.reaches r);
    }

within_added : (made made2 : List ℤ) (l : ℤ) → SameLiterals made2 (l ∷ made) → (k : ℤ) → holds made k ≡ true → holds made2 k ≡ true
within_added made made2 l added k e = added k ∙ or_right (int_eq k l) (holds made k) e

-- only 0 is its own negation
self_negated : (l : ℤ) → neg_ℤ l ≡ l → l ≡ pos 0
self_negated (pos zero) e = refl
self_negated (pos (suc n)) e = absurd (cc)
self_negated (negsuc n) e = absurd (cc)

nonzero_at : (clauses : List (List ℤ)) (at : ℕ) (c : List ℤ) → occurs clauses (pos 0) ≡ false → at < length clauses → get_or clauses at c ≡ c
    → holds c (pos 0) ≡ false
nonzero_at [] at c none h e = absurd (omega arith)
nonzero_at (d ∷ clauses) zero c none h e =
    sym (ap (λ x. holds x (pos 0)) e) ∙ (or_parts (holds d (pos 0)) (occurs clauses (pos 0)) none).0
nonzero_at (d ∷ clauses) (suc at) c none h e =
    nonzero_at clauses at c (or_parts (holds d (pos 0)) (occurs clauses (pos 0)) none).1 (omega arith) e

-- a literal of a clause isn't its own negation
apart_from_negation : (c : List ℤ) (l : ℤ) → holds c (pos 0) ≡ false → holds c l ≡ true → int_eq (neg_ℤ l) l ≡ false
apart_from_negation c l no_zero held =
    elim (cases_Bool (int_eq (neg_ℤ l) l)) [
      | inl same ↦ clash (holds c l) held (ap (holds c) (self_negated l (same_literal (neg_ℤ l) l same)) ∙ no_zero)
      | inr other ↦ other
    ]

consistent_added : (made made2 c : List ℤ) (l : ℤ) → holds c (pos 0) ≡ false → IsConsistent made → IsForced made c l → SameLiterals made2 (l ∷ made)
    → IsConsistent made2
consistent_added made made2 c l no_zero consistent forced added k e =
    added (neg_ℤ k)
    ∙ elim (or_cases (int_eq k l) (holds made k) (sym (added k) ∙ e)) [
      | inl is_l ↦
          let k_is_l = same_literal k l is_l in
          or_from (int_eq (neg_ℤ k) l) (holds made (neg_ℤ k))
          (ap (λ x. int_eq (neg_ℤ x) l) k_is_l ∙ apart_from_negation c l no_zero forced.held)
          (ap (λ x. holds made (neg_ℤ x)) k_is_l ∙ forced.not_false)
      | inr before ↦
          or_from (int_eq (neg_ℤ k) l) (holds made (neg_ℤ k))
          (elim (cases_Bool (int_eq (neg_ℤ k) l)) [
            | inl is_l ↦
                let back : neg_ℤ l ≡ k = ap neg_ℤ (sym (same_literal (neg_ℤ k) l is_l)) ∙ neg_ℤ-neg_ℤ k in
                clash (holds made k) before (sym (ap (holds made) back) ∙ forced.not_false)
            | inr other ↦ other
          ])
          (consistent k before)
    ]

-- a literal that a clause forces is made true
pub Grows-forced : (clauses : List (List ℤ)) (made made2 c : List ℤ) (at : ℕ) (l : ℤ) → occurs clauses (pos 0) ≡ false → IsConsistent made
    → slice_get clauses at ≡ Some c →
    IsForced made c l → SameLiterals made2 (l ∷ made) → Grows clauses made made2
Grows-forced clauses made made2 c at l nonzero consistent here forced added =
    record {
      keeps = within_added made made2 l added;
      consistent =
          consistent_added made made2 c l (nonzero_at clauses at c nonzero (slice_get_within clauses at c here)
          (get_or_from_slice_get clauses at c c here)) consistent forced added;
      reaches =
          λ r. unit c l (found clauses at c here) forced.others_false (Reaches-more clauses made2 (l ∷ made) (λ k e. sym (added k) ∙ e) r);
    }

-- ---- the clauses without a true literal

touches : (made c : List ℤ) (l : ℤ) → holds c l ≡ true → holds made l ≡ true → list_any (holds made) c ≡ true
touches made [] l held t = held
touches made (x ∷ c) l held t =
    elim (or_cases (int_eq l x) (holds c l) held) [
      | inl here ↦ or_left (holds made x) (list_any (holds made) c) (ap (holds made) (sym (same_literal l x here)) ∙ t)
      | inr later ↦ or_right (holds made x) (list_any (holds made) c) (touches made c l later t)
    ]

true_one : (made c : List ℤ) → list_any (holds made) c ≡ true → (k : ℤ) × (holds c k ≡ true) × (holds made k ≡ true)
true_one made [] e = absurd (false≢true e)
true_one made (x ∷ c) e =
    elim (or_cases (holds made x) (list_any (holds made) c) e) [
      | inl here ↦ (x, or_left (int_eq x x) (holds c x) (same_test x x refl), here)
      | inr later ↦ let k = true_one made c later in (k.0, or_right (int_eq k.0 x) (holds c k.0) k.1, k.2)
    ]

untouched : (made c : List ℤ) (l : ℤ) → IsConsistent made → IsForced made c l → list_any (holds made) c ≡ false
untouched made c l consistent forced =
    elim (cases_Bool (list_any (holds made) c)) [
      | inr none ↦ none
      | inl any ↦
          let k = true_one made c any in
          elim (cases_Bool (int_eq k.0 l)) [
            | inl is_l ↦ clash (holds made l) (sym (ap (holds made) (same_literal k.0 l is_l)) ∙ k.2) forced.not_true
            | inr other ↦ clash (holds made (neg_ℤ k.0)) (forced.others_false k.0 k.1 other) (consistent k.0 k.2)
          ]
    ]

touched_more : (old new c : List ℤ) → ((k : ℤ) → holds old k ≡ true → holds new k ≡ true) → list_any (holds old) c ≡ true → list_any (holds new) c ≡ true
touched_more old new c keeps e = let k = true_one old c e in touches new c k.0 k.1 (keeps k.0 k.2)

bit_le : (a b : Bool) → (a ≡ true → b ≡ true) → cond (not b) 1 0 ≤ cond (not a) 1 0
bit_le true true h = omega arith
bit_le true false h = absurd (false≢true (h refl))
bit_le false true h = omega arith
bit_le false false h = omega arith

abbrev bit_of : List ℤ → List ℤ → ℕ
bit_of made c = cond (not (list_any (holds made) c)) 1 0

pub open_clauses-le : (old new : List ℤ) (clauses : List (List ℤ)) → ((k : ℤ) → holds old k ≡ true → holds new k ≡ true)
    → open_clauses new clauses ≤ open_clauses old clauses
open_clauses-le old new [] keeps = omega arith
open_clauses-le old new (c ∷ clauses) keeps =
    let here = bit_le (list_any (holds old) c) (list_any (holds new) c) (touched_more old new c keeps) in
    let rest = open_clauses-le old new clauses keeps in
    rw (sum_by-cons (bit_of new) c clauses, sum_by-cons (bit_of old) c clauses) (omega (arith, here, rest))

less_at : (old new : List ℤ) (clauses : List (List ℤ)) (at : ℕ) (c : List ℤ) → ((k : ℤ) → holds old k ≡ true → holds new k ≡ true)
    → at < length clauses → get_or clauses at c ≡ c →
    list_any (holds old) c ≡ false → list_any (holds new) c ≡ true → open_clauses new clauses < open_clauses old clauses
less_at old new [] at c keeps h e before after = absurd (omega arith)
less_at old new (d ∷ clauses) zero c keeps h e before after =
    let was : bit_of old d ≡ 1 = ap (bit_of old) e ∙ ap (λ b. cond (not b) 1 0) before in
    let is : bit_of new d ≡ 0 = ap (bit_of new) e ∙ ap (λ b. cond (not b) 1 0) after in
    let rest = open_clauses-le old new clauses keeps in
    rw (sum_by-cons (bit_of new) d clauses, sum_by-cons (bit_of old) d clauses) (omega (arith, was, is, rest))
less_at old new (d ∷ clauses) (suc at) c keeps h e before after =
    let here = bit_le (list_any (holds old) d) (list_any (holds new) d) (touched_more old new d keeps) in
    let rest = less_at old new clauses at c keeps (omega arith) e before after in
    rw (sum_by-cons (bit_of new) d clauses, sum_by-cons (bit_of old) d clauses) (omega (arith, here, rest))

-- a clause that forces a literal has a true one then
pub open_clauses-forced : (clauses : List (List ℤ)) (made made2 c : List ℤ) (at : ℕ) (l : ℤ) → IsConsistent made → slice_get clauses at ≡ Some c
    → IsForced made c l →
    SameLiterals made2 (l ∷ made) → open_clauses made2 clauses < open_clauses made clauses
open_clauses-forced clauses made made2 c at l consistent here forced added =
    less_at made made2 clauses at c (within_added made made2 l added) (slice_get_within clauses at c here) (get_or_from_slice_get clauses at c c here)
    (untouched made c l consistent forced)
    (touches made2 c l forced.held (added l ∙ or_left (int_eq l l) (holds made l) (same_test l l refl)))

-- ---- a pass, clause by clause

-- the clauses before a place are settled, or fewer are without a true literal than before the pass
pub record PassedOver (clauses : List (List ℤ)) (initial : List ℤ) (at : ℕ) (made : List ℤ) (grew : Bool) : Type 0 where
  pub grows : Grows clauses initial made
  pub passed : MatchBool grew (open_clauses made clauses < open_clauses initial clauses) (All (Settled made) (take at clauses))

pub pass_begins : (clauses : List (List ℤ)) (made : List ℤ) → IsConsistent made → PassedOver clauses made 0 made false
pass_begins clauses made consistent = record { grows = Grows-refl clauses made consistent; passed = λ k d h. absurd (omega arith) }

pub one_clause_more : (clauses : List (List ℤ)) (at : ℕ) (c : List ℤ) → slice_get clauses at ≡ Some c → take (at + 1) clauses ≡ take at clauses ++ c ∷ []
one_clause_more clauses at c here =
    take_more clauses at c (slice_get_within clauses at c here) ∙ ap (λ d. take at clauses ++ d ∷ []) (get_or_from_slice_get clauses at c c here)

settled_more : (clauses : List (List ℤ)) (initial : List ℤ) (at : ℕ) (made : List ℤ) (grew : Bool) (c : List ℤ) → slice_get clauses at ≡ Some c
    → Settled made c →
    MatchBool grew (open_clauses made clauses < open_clauses initial clauses) (All (Settled made) (take at clauses)) →
    MatchBool grew (open_clauses made clauses < open_clauses initial clauses) (All (Settled made) (take (at + 1) clauses))
settled_more clauses initial at made true c here settled passed = passed
settled_more clauses initial at made false c here settled passed =
    subst (All (Settled made)) (sym (one_clause_more clauses at c here))
    (All-push (Settled made) (take at clauses) c passed settled)

pub pass_nothing : (clauses : List (List ℤ)) (initial : List ℤ) (at : ℕ) (made : List ℤ) (grew : Bool) (c made2 : List ℤ) (grew2 : Bool)
    → made2 ≡ made → grew2 ≡ grew →
    slice_get clauses at ≡ Some c → Settled made c → PassedOver clauses initial at made grew → PassedOver clauses initial (at + 1) made2 grew2
pass_nothing clauses initial at made grew c made2 grew2 made_is grew_is here settled before =
    subst (λ m. PassedOver clauses initial (at + 1) m grew2) (sym made_is)
    (subst (PassedOver clauses initial (at + 1) made) (sym grew_is)
    (record { grows = before.grows; passed = settled_more clauses initial at made grew c here settled before.passed }))

pub pass_forced : (clauses : List (List ℤ)) (initial : List ℤ) (at : ℕ) (made : List ℤ) (grew : Bool) (c : List ℤ) (l : ℤ) (added made2 : List ℤ)
    (grew2 : Bool) → made2 ≡ added →
    grew2 ≡ true → occurs clauses (pos 0) ≡ false → slice_get clauses at ≡ Some c → IsForced made c l → SameLiterals added (l ∷ made)
    → PassedOver clauses initial at made grew →
    PassedOver clauses initial (at + 1) made2 grew2
pass_forced clauses initial at made grew c l added made2 grew2 made_is grew_is nonzero here forced same before =
    subst (λ m. PassedOver clauses initial (at + 1) m grew2) (sym made_is)
    (subst (PassedOver clauses initial (at + 1) added) (sym grew_is)
    (record {
      grows =
          Grows-trans clauses initial made added before.grows (Grows-forced clauses made added c at l nonzero before.grows.consistent here forced same);
      passed =
          omega (
            arith,
            open_clauses-forced clauses made added c at l before.grows.consistent here forced same,
            open_clauses-le initial made clauses before.grows.keeps,
          );
    }))

pub pass_conflict : (clauses : List (List ℤ)) (initial : List ℤ) (at : ℕ) (made : List ℤ) (grew : Bool) (c : List ℤ) → slice_get clauses at ≡ Some c
    → AreFalse made c →
    PassedOver clauses initial at made grew → Reaches clauses initial
pass_conflict clauses initial at made grew c here falses before = before.grows.reaches (conflict c (found clauses at c here) falses)

pub pass_ends : (clauses : List (List ℤ)) (initial : List ℤ) (at : ℕ) (made : List ℤ) (grew : Bool) → length clauses ≤ at
    → PassedOver clauses initial at made grew →
    Passes clauses initial made (if grew then passes.Grew else passes.Settled)
pass_ends clauses initial at made true h all = (all.grows, all.passed)
pass_ends clauses initial at made false h all = (all.grows, subst (All (Settled made)) (take_all at clauses h) all.passed)
