-- How many different clauses there are over so many variables.
use Rattle.std.proofs.Common.{◌≡◌, ℕ, zero, suc, ◌+◌, ◌*◌, ◌^◌, ◌<◌, ◌≤◌, List, [], ◌∷◌, ◌++◌, length, get_or, map, true, false, refl, sym, ap, ◌∙◌}
use Rattle.std.proofs.Common.{inl, inr, ◌⊎◌, ◌≢◌, subst, arith, eqb, eqb-true}
use Rattle.std.specs.Prelude.{ℤ, pos, negsuc, neg_ℤ, Bool, is_some, All, AllPairs, Contains}
use Rattle.std.specs.List.{list_any}
use Rattle.std.proofs.Math.Nat.{pow-suc}
use Rattle.std.proofs.lemmas.Bool.{or_cases, false≢true, true≢false}
use Rattle.std.proofs.lemmas.Bool.Decides.{Decides-eqb}
use Rattle.std.proofs.lemmas.List.{get_or-map, length-map}
use Rattle.std.proofs.lemmas.List.Elements.{All-cons}
use Rattle.std.proofs.lemmas.Map.Made.{IsDistinct-from_AllPairs}
use Rattle.std.proofs.lemmas.Map.Steps.{length-le_from_distinct_below}
use Rattle.vg_cnf.specs.Clauses.{ClauseSet, holds, IsOver, IsClauseOver}
use Rattle.vg_cnf.specs.Propagation.{has_empty, propagated_in}
use Rattle.vg_cnf.specs.Refutations.{IsSameClause, IsSpent}
use Rattle.vg_units.specs.Searching.{Search}
use Rattle.vg_units.proofs.Literals.{held_over}
use Rattle.vg_sat.proofs.Shortening.{clause_apart}
use Rattle.vg_sat.proofs.Spending.{Spending, spending_spent, contains_held, held_contains}

-- ---- a clause as a number of base 3, with a digit for each variable

-- 1 where the variable stands in the clause, 2 where its negation does, and 0 where neither
abbrev trit : Bool → Bool → ℕ
trit true b = 1
trit false true = 2
trit false false = 0

trit_below : (a b : Bool) → trit a b < 3
trit_below true b = omega arith
trit_below false true = omega arith
trit_below false false = omega arith

one_back : (a b : Bool) → trit a b ≡ 1 → a ≡ true
one_back true b e = refl
one_back false true e = absurd (omega (arith, e))
one_back false false e = absurd (omega (arith, e))

two_back : (a b : Bool) → trit a b ≡ 2 → b ≡ true
two_back true b e = absurd (omega (arith, e))
two_back false true e = refl
two_back false false e = absurd (omega (arith, e))

abbrev digit : List ℤ → ℕ → ℕ
digit c v = trit (holds c (pos v)) (holds c (neg_ℤ (pos v)))

abbrev number : ℕ → List ℤ → ℕ
number zero c = 0
number (suc n) c = digit c (suc n) + 3 * number n c

number_below : (n : ℕ) (c : List ℤ) → number n c < 3 ^ n
number_below zero c = omega arith
number_below (suc n) c = omega (arith, number_below n c, trit_below (holds c (pos (suc n))) (holds c (neg_ℤ (pos (suc n)))), pow-suc 3 n)

-- equal numbers have equal digits
digits_same : (n : ℕ) (c d : List ℤ) → number n c ≡ number n d → (v : ℕ) → 0 < v → v ≤ n → digit c v ≡ digit d v
digits_same zero c d e v some within = absurd (omega arith)
digits_same (suc n) c d e v some within =
    let of_c = trit_below (holds c (pos (suc n))) (holds c (neg_ℤ (pos (suc n)))) in
    let of_d = trit_below (holds d (pos (suc n))) (holds d (neg_ℤ (pos (suc n)))) in
    elim (last_or_before v n within) [
      | inl last ↦
          let here : digit c (suc n) ≡ digit d (suc n) = omega (arith, e, of_c, of_d) in
          ap (digit c) last ∙ here ∙ ap (digit d) (sym last)
      | inr before ↦ digits_same n c d (omega (arith, e, of_c, of_d)) v some before
    ]
  where
    last_or_before : (v n : ℕ) → v ≤ suc n → (v ≡ suc n) ⊎ (v ≤ n)
    last_or_before v n within = grind arith

held_same : (n : ℕ) (c d : List ℤ) → IsClauseOver n c → number n c ≡ number n d → (l : ℤ) → holds c l ≡ true → holds d l ≡ true
held_same n c d over e l held = by l (held_over n c l over.over held) held
  where
    by : (l : ℤ) → IsOver n l → holds c l ≡ true → holds d l ≡ true
    by (pos zero) inside held = absurd (omega (arith, inside.0))
    by (pos (suc v)) inside held =
        one_back (holds d (pos (suc v))) (holds d (neg_ℤ (pos (suc v))))
        (sym (digits_same n c d e (suc v) inside.0 inside.1) ∙ ap (λ b. trit b (holds c (neg_ℤ (pos (suc v))))) held)
    by (negsuc v) inside held =
        two_back (holds d (pos (suc v))) (holds d (neg_ℤ (pos (suc v))))
        (sym (digits_same n c d e (suc v) inside.0 inside.1)
        ∙ ap (λ b. trit b (holds c (negsuc v))) (clause_apart c (negsuc v) over.clause held) ∙ ap (λ b. trit false b) held)

same_clause : (n : ℕ) (c d : List ℤ) → IsClauseOver n c → IsClauseOver n d → number n c ≡ number n d → IsSameClause c d
same_clause n c d over_c over_d e l = (
  λ at. held_contains d l (held_same n c d over_c e l (contains_held c l at)),
  λ at. held_contains c l
      (held_same n d c over_d (sym e) l (contains_held d l at)),
)

-- ---- different clauses

numbered_below : (n q : ℕ) (cs : List (List ℤ)) → list_any (eqb q) (map (number n) cs) ≡ true → q < 3 ^ n
numbered_below n q [] e = absurd (false≢true e)
numbered_below n q (c ∷ cs) e =
    elim (or_cases (eqb q (number n c)) (list_any (eqb q) (map (number n) cs)) e) [
      | inl here ↦ omega (arith, eqb-true q (number n c) here, number_below n c)
      | inr later ↦ numbered_below n q cs later
    ]

pub different_few : (n : ℕ) (cs : List (List ℤ)) → All (IsClauseOver n) cs → AllPairs (λ c d. ¬ IsSameClause c d) cs → length cs ≤ 3 ^ n
different_few n cs over apart =
    subst (λ m. m ≤ 3 ^ n) (length-map cs (number n))
    (length-le_from_distinct_below (map (number n) cs) (3 ^ n) (IsDistinct-from_AllPairs Decides-eqb (map (number n) cs) numbers_apart)
    (λ q e. numbered_below n q cs e))
  where
    numbers_apart : AllPairs (λ x y. x ≢ y) (map (number n) cs)
    numbers_apart i j d before below e =
        let j_in : j < length cs = subst (λ m. j < m) (length-map cs (number n)) below in
        let i_in : i < length cs = omega arith in
        apart i j [] before j_in
        (same_clause n (get_or cs i []) (get_or cs j []) (over i [] i_in) (over j [] j_in)
        (sym (get_or-map (number n) cs i [] d i_in) ∙ e ∙ get_or-map (number n) cs j [] d j_in))

-- ---- the empty clause is none of a spent list

empty_held : (cs : List (List ℤ)) (k : ℕ) (d : List ℤ) → k < length cs → get_or cs k d ≡ [] → has_empty cs ≡ true
empty_held [] k d below e = absurd (omega arith)
empty_held ([] ∷ cs) k d below e = refl
empty_held ((x ∷ c) ∷ cs) zero d below e = absurd (cc e)
empty_held ((x ∷ c) ∷ cs) (suc k) d below e = empty_held cs k d (omega arith) e

empty_after : (given steps : List (List ℤ)) → has_empty steps ≡ true → has_empty (given ++ steps) ≡ true
empty_after [] steps e = e
empty_after ([] ∷ given) steps e = refl
empty_after ((x ∷ c) ∷ given) steps e = empty_after given steps e

none_propagated : (n : ℕ) (cs : List (List ℤ)) → has_empty cs ≡ true → is_some (propagated_in n cs) ≡ false
none_propagated zero cs e = rw e refl
none_propagated (suc n) cs e = rw e refl

same_as_empty : (c : List ℤ) → IsSameClause [] c → c ≡ []
same_as_empty [] alike = refl
same_as_empty (x ∷ c) alike = let at : Contains [] x = (alike x).1 (0, omega arith, refl) in absurd (omega (arith, at.1))

never_empty : (set : ClauseSet) (steps : List (List ℤ)) (k : ℕ) (d : List ℤ) → IsSpent set steps → k < length steps → ¬ IsSameClause [] (get_or steps k d)
never_empty set steps k d spent below alike =
    let given = set.clauses in
    let empty = empty_after given steps (empty_held steps k d below (same_as_empty (get_or steps k d) alike)) in
    true≢false (sym spent.open_end ∙ none_propagated (length (given ++ steps)) (given ++ steps) empty)

pairs_cons : (c : List ℤ) (cs : List (List ℤ)) → ((k : ℕ) (d : List ℤ) → k < length cs → ¬ IsSameClause c (get_or cs k d))
    → AllPairs (λ a b. ¬ IsSameClause a b) cs →
    AllPairs (λ a b. ¬ IsSameClause a b) (c ∷ cs)
pairs_cons c cs first rest zero zero d before below = absurd (omega arith)
pairs_cons c cs first rest zero (suc j) d before below = first j d (omega arith)
pairs_cons c cs first rest (suc i) zero d before below = absurd (omega arith)
pairs_cons c cs first rest (suc i) (suc j) d before below = rest i j d (omega arith) (omega arith)

-- a spent list has fewer clauses than there are over the variables, the empty one among these
pub spent_few : (set : ClauseSet) (steps : List (List ℤ)) → IsSpent set steps → length steps < 3 ^ set.variables
spent_few set steps spent =
    omega (
      arith,
      different_few set.variables ([] ∷ steps) (All-cons (IsClauseOver set.variables) [] steps
          (record { clause = refl; over = λ k d below. absurd (omega arith) }) spent.clauses)
          (pairs_cons [] steps (λ k d below. never_empty set steps k d spent below) spent.distinct),
    )

-- so a search never ends with as many
pub spending_few : (set : ClauseSet) (s : Search) (learned : List (List ℤ)) (n limit : ℕ) → 3 ^ set.variables ≤ limit → limit ≤ n → Spending set s learned n → ⊥
spending_few set s learned n limit enough end h =
    omega (arith, spent_few set learned (spending_spent set s learned n h), h.count)
