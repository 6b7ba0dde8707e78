-- Learned clauses, one by one.
use Rattle.std.proofs.Common.{◌≡◌, ℕ, zero, suc, ◌+◌, ◌<◌, List, [], ◌∷◌, ◌++◌, length, get_or, true, false, refl, sym, ap, ◌∙◌, inl, inr, subst}
use Rattle.std.proofs.Common.{arith, length-append, append_assoc}
use Rattle.std.specs.Prelude.{ℤ, pos, neg_ℤ, Option, Some, None, IsSome, IfSome, is_some, All, Any, AllPairs, Contains}
use Rattle.std.specs.Ordering.{int_eq}
use Rattle.std.proofs.lemmas.Bool.{cases_Bool, or_cases, false≢true, true≢false}
use Rattle.std.specs.Option.{option_map}
use Rattle.std.proofs.Math.IntN.{neg_ℤ-neg_ℤ}
use Rattle.std.proofs.lemmas.List.{append-nil, get_or-append-add}
use Rattle.std.proofs.lemmas.List.Elements.{All-push, All-from_get_or}
use Rattle.std.proofs.lemmas.List.Folds.{list_any_at}
use Rattle.std.proofs.lemmas.List.Quantifiers.{all_pairs_push}
use Rattle.std.proofs.lemmas.List.{get_or_default}
use Rattle.vg_cnf.specs.Clauses.{ClauseSet, holds, without, IsClauseOver}
use Rattle.vg_cnf.specs.Orders.{Settled, by_true, by_two, negations, Reaches}
use Rattle.vg_cnf.specs.Propagation.{propagated, falsified, follows}
use Rattle.vg_cnf.specs.Refutations.{first_unfollowed, ends_empty, IsRefutation, IsSameClause, IsNew, AreNewInTurn, IsSpent}
use Rattle.vg_cnf.proofs.Steps.{clash, same_literal, same_test, none_numbered, unfollowed-here, unfollowed-later}
use Rattle.vg_cnf.proofs.Orders.{reaches-follows, settled-falsified}
use Rattle.vg_cnf.proofs.Settled.{settled-propagated, without-from, without-gone}
use Rattle.vg_units.specs.Searching.{Search, IsAtRest}
use Rattle.vg_units.specs.Propagating.{AreWithin}
use Rattle.vg_units.proofs.Assuming.{holds-negations}
use Rattle.vg_units.proofs.Reaching.{over-nonzero, found_before}
use Rattle.vg_units.proofs.Visiting.{held_at}
use Rattle.vg_sat.specs.Learned.{first_of, LeavesOpen, LeavesFirst, IsLearned}

-- ---- literals of a list, counted or tested

pub contains_held : (c : List ℤ) (l : ℤ) → Contains c l → holds c l ≡ true
contains_held c l at = list_any_at (int_eq l) c at.0 l at.1 (same_test l (get_or c at.0 l) (sym at.2))

pub held_contains : (c : List ℤ) (l : ℤ) → holds c l ≡ true → Contains c l
held_contains [] l e = absurd (false≢true e)
held_contains (x ∷ c) l e =
    elim (or_cases (int_eq l x) (holds c l) e) [
      | inl here ↦ (zero, omega arith, sym (same_literal l x here))
      | inr later ↦ let at = held_contains c l later in (suc at.0, omega (arith, at.1), at.2)
    ]

first_held : (c : List ℤ) → 0 < length c → holds c (first_of c) ≡ true
first_held c some = held_at c 0 some

-- ---- new clauses

-- where propagation ends with these literals false
leaves_some : (cs : List (List ℤ)) (c : List ℤ) → LeavesOpen cs c → IsSome (propagated (falsified c ++ cs))
leaves_some cs c h =
    ap is_some (settled-propagated (length (falsified c ++ cs)) h.made (falsified c ++ cs) h.consistent (settled-falsified h.made c cs h.falses h.settled)).1

without_falses : (c : List ℤ) (l : ℤ) (made : List ℤ) → ((k : ℤ) → holds c k ≡ true → int_eq k l ≡ false → holds made (neg_ℤ k) ≡ true)
    → AreWithin (negations (without l c)) made
without_falses c l made others k e =
    let held : holds (without l c) (neg_ℤ k) ≡ true = sym (holds-negations (without l c) k) ∙ e in
    ap (holds made) (sym (neg_ℤ-neg_ℤ k))
    ∙ others (neg_ℤ k) (without-from l (neg_ℤ k) c held)
    (elim (cases_Bool (int_eq (neg_ℤ k) l)) [
      | inl is_l ↦ clash (holds (without l c) l) (ap (holds (without l c)) (sym (same_literal (neg_ℤ k) l is_l)) ∙ held) (without-gone l c)
      | inr other ↦ other
    ])

first_leaves : (cs : List (List ℤ)) (c : List ℤ) → LeavesFirst cs c → LeavesOpen cs (without (first_of c) c)
first_leaves cs c h =
    record { made = h.made; consistent = h.consistent; settled = h.settled; falses = without_falses c (first_of c) h.made h.others }

each_leaves : (v : ℕ) (cs : List (List ℤ)) (c : List ℤ) (k : ℤ) → IsLearned v cs c → holds c k ≡ true → LeavesOpen cs (without k c)
each_leaves v cs c k h held =
    elim (cases_Bool (int_eq k (first_of c))) [
      | inl is_first ↦ subst (λ x. LeavesOpen cs (without x c)) (sym (same_literal k (first_of c) is_first)) (first_leaves cs c h.learnable.first)
      | inr other ↦ h.needed k held other
    ]

unmade_some : (result : Option (List ℤ)) (literals made : List ℤ) (l : ℤ) → result ≡ Some literals
    → ((k : ℤ) → holds literals k ≡ true → holds made k ≡ true) → holds made l ≡ false →
    IfSome result (λ ls. ¬ Contains ls l)
unmade_some result literals made l e within unmade =
    subst (λ r. IfSome r (λ ls. ¬ Contains ls l)) (sym e) (λ at. true≢false (sym (within l (contains_held literals l at)) ∙ unmade))

first_unmade : (cs : List (List ℤ)) (c : List ℤ) → LeavesFirst cs c → IfSome (propagated (falsified (without (first_of c) c) ++ cs))
    (λ ls. ¬ Contains ls (first_of c))
first_unmade cs c h =
    let all = falsified (without (first_of c) c) ++ cs in
    let ends = settled-propagated (length all) h.made all h.consistent (settled-falsified h.made (without (first_of c) c) cs
    (without_falses c (first_of c) h.made h.others) h.settled) in
    unmade_some (propagated all) ends.0 h.made (first_of c) ends.1 ends.2 h.unmade

pub learned_new : (v : ℕ) (cs : List (List ℤ)) (c : List ℤ) → IsLearned v cs c → IsNew cs c
learned_new v cs c h =
    record {
      each_needed =
          All-from_get_or (λ l. IsSome (propagated (falsified (without l c) ++ cs))) c (pos 0)
          (λ i inside. leaves_some cs (without (get_or c i (pos 0)) c) (each_leaves v cs c (get_or c i (pos 0)) h (held_at c i inside)));
      first_open =
          λ l rest e.
          let is_first : first_of c ≡ l = ap first_of e in
          subst (λ x. IfSome (propagated (falsified (without x c) ++ cs)) (λ ls. ¬ Contains ls x)) is_first (first_unmade cs c h.learnable.first);
    }

-- a learned clause is none of those before it
settled_other : (cs : List (List ℤ)) (c d : List ℤ) (h : LeavesFirst cs c) → Settled h.made d → ((l : ℤ) → holds d l ≡ true → holds c l ≡ true) → ⊥
settled_other cs c d h (by_true l here t) within =
    elim (cases_Bool (int_eq l (first_of c))) [
      | inl is_first ↦ true≢false (sym (sym (ap (holds h.made) (same_literal l (first_of c) is_first)) ∙ t) ∙ h.unmade)
      | inr other ↦ true≢false (sym (h.others l (within l here) other) ∙ h.consistent l t)
    ]
settled_other cs c d h (by_two k l here there apart p q) within =
    elim (cases_Bool (int_eq k (first_of c))) [
      | inl k_first ↦
          elim (cases_Bool (int_eq l (first_of c))) [
            | inl l_first ↦ clash (int_eq k l) (same_test k l (same_literal k (first_of c) k_first ∙ sym (same_literal l (first_of c) l_first))) apart
            | inr other ↦ true≢false (sym (h.others l (within l there) other) ∙ q)
          ]
      | inr other ↦ true≢false (sym (h.others k (within k here) other) ∙ p)
    ]

pub learned_other : (v : ℕ) (cs : List (List ℤ)) (c d : List ℤ) → IsLearned v cs c → Contains cs d → ((l : ℤ) → Contains d l → Contains c l) → ⊥
learned_other v cs c d h at within =
    settled_other cs c d h.learnable.first (subst (Settled h.learnable.first.made) at.2 (h.learnable.first.settled at.0 d at.1))
    (λ l held. contains_held c l (within l (held_contains d l held)))

-- ---- clauses that follow in turn

pub unfollowed_pushed : (given steps : List (List ℤ)) (c : List ℤ) → first_unfollowed given steps ≡ None → follows (given ++ steps) c ≡ true
    → first_unfollowed given (steps ++ c ∷ []) ≡ None
unfollowed_pushed given [] c before here =
    unfollowed-later given c [] (ap (λ cs. follows cs c) (sym (append-nil given)) ∙ here)
unfollowed_pushed given (d ∷ steps) c before here =
    elim (cases_Bool (follows given d)) [
      | inl first ↦
          let rest = none_numbered (first_unfollowed (given ++ d ∷ []) steps) (sym (unfollowed-later given d steps first) ∙ before) in
          unfollowed-later given d (steps ++ c ∷ []) first
          ∙ ap (option_map (λ n. n + 1))
          (unfollowed_pushed (given ++ d ∷ []) steps c rest (ap (λ cs. follows cs c) (append_assoc given (d ∷ []) steps) ∙ here))
      | inr never ↦ let no_one : None ≡ Some 1 = sym before ∙ unfollowed-here given d steps never in absurd (cc no_one)
    ]

pub new_pushed : (given steps : List (List ℤ)) (c : List ℤ) → AreNewInTurn given steps → IsNew (given ++ steps) c → AreNewInTurn given (steps ++ c ∷ [])
new_pushed given [] c before here = (subst (λ cs. IsNew cs c) (append-nil given) here, tt)
new_pushed given (d ∷ steps) c before here =
    (before.0, new_pushed (given ++ d ∷ []) steps c before.1 (subst (λ cs. IsNew cs c) (sym (append_assoc given (d ∷ []) steps)) here))

ends_pushed : (steps : List (List ℤ)) → ends_empty (steps ++ [] ∷ []) ≡ true
ends_pushed [] = refl
ends_pushed ([] ∷ []) = refl
ends_pushed ((l ∷ rest) ∷ []) = refl
ends_pushed (c ∷ d ∷ steps) = ends_pushed (d ∷ steps)

-- ---- the loop

-- what was learned so far, from which no empty clause follows yet
pub record Spending (set : ClauseSet) (s : Search) (learned : List (List ℤ)) (n : ℕ) : Type 0 where
  pub variables : s.variables ≡ set.variables
  pub clauses : s.clauses ≡ set.clauses ++ learned
  pub rest : IsAtRest s
  pub over : All (IsClauseOver set.variables) (set.clauses ++ learned)
  pub undecided : IsSome (propagated (set.clauses ++ learned))
  pub count : length learned ≡ n
  pub learned_over : All (IsClauseOver set.variables) learned
  pub distinct : AllPairs (λ c d. ¬ IsSameClause c d) learned
  pub none_given : All (λ c. ¬ Any (IsSameClause c) set.clauses) learned
  pub each_follows : first_unfollowed set.clauses learned ≡ None
  pub each_new : AreNewInTurn set.clauses learned

pub spending_starts : (set : ClauseSet) (s : Search) (learned : List (List ℤ)) → learned ≡ [] → s.variables ≡ set.variables → s.clauses ≡ set.clauses
    → IsAtRest s →
    All (IsClauseOver set.variables) set.clauses → IsSome (propagated set.clauses) → Spending set s learned 0
spending_starts set s learned none variables clauses rest over undecided =
    subst (λ (xs : List (List ℤ)). Spending set s xs 0) (sym none)
    (record {
      variables = variables;
      clauses = clauses ∙ sym (append-nil set.clauses);
      rest = rest;
      over = subst (All (IsClauseOver set.variables)) (sym (append-nil set.clauses)) over;
      undecided = subst (λ cs. IsSome (propagated cs)) (sym (append-nil set.clauses)) undecided;
      count = refl;
      learned_over = λ k d below. absurd (omega arith);
      distinct = λ i j d before below. absurd (omega arith);
      none_given = λ k d below. absurd (omega arith);
      each_follows = refl;
      each_new = tt;
    })

any_found : (set : List (List ℤ)) (c : List ℤ) → Any (IsSameClause c) set → (d : List ℤ) × Contains set d × IsSameClause c d
any_found set c any = (any.1, (any.0, any.2, get_or_default set any.0 any.1 any.1 any.2 ∙ any.3), any.4)

contains_at_get : (cs : List (List ℤ)) (k : ℕ) (d : List ℤ) → k < length cs → Contains cs (get_or cs k d)
contains_at_get cs k d inside = (k, inside, get_or_default cs k (get_or cs k d) d inside)

found_after : (cs ds : List (List ℤ)) (d : List ℤ) → Contains ds d → Contains (cs ++ ds) d
found_after cs ds d at =
    let sum : length (cs ++ ds) ≡ length cs + length ds = length-append cs ds in
    (length cs + at.0, omega (arith, at.1, sum), get_or-append-add cs ds at.0 d ∙ at.2)

pub spending_on : (set : ClauseSet) (s new : Search) (learned : List (List ℤ)) (n : ℕ) (c : List ℤ) → IsLearned s.variables s.clauses c
    → new.variables ≡ s.variables →
    new.clauses ≡ s.clauses ++ c ∷ [] → IsAtRest new → IsSome (propagated new.clauses) → Spending set s learned n → Spending set new (learned ++ c ∷ []) (n + 1)
spending_on set s new learned n c is_learned variables clauses rest undecided h =
    let whole : new.clauses ≡ set.clauses ++ (learned ++ c ∷ []) = clauses ∙ ap (λ cs. cs ++ c ∷ []) h.clauses ∙ append_assoc set.clauses learned (c ∷ []) in
    let over_c : IsClauseOver set.variables c = subst (λ v. IsClauseOver v c) h.variables is_learned.learnable.over in
    let at_s : IsLearned s.variables (set.clauses ++ learned) c = subst (λ cs. IsLearned s.variables cs c) h.clauses is_learned in
    record {
      variables = variables ∙ h.variables;
      clauses = whole;
      rest = rest;
      over = subst (All (IsClauseOver set.variables)) (append_assoc set.clauses learned (c ∷ []))
          (All-push (IsClauseOver set.variables) (set.clauses ++ learned) c h.over over_c);
      undecided = subst (λ cs. IsSome (propagated cs)) whole undecided;
      count = omega (arith, length-append learned (c ∷ []), h.count);
      learned_over = All-push (IsClauseOver set.variables) learned c h.learned_over over_c;
      distinct =
          all_pairs_push (λ a b. ¬ IsSameClause a b) learned c h.distinct
          (λ k d inside alike. learned_other s.variables (set.clauses ++ learned) c (get_or learned k d) at_s
          (found_after set.clauses learned (get_or learned k d) (contains_at_get learned k d inside)) (λ l. (alike l).0));
      none_given =
          All-push (λ a. ¬ Any (IsSameClause a) set.clauses) learned c h.none_given
          (λ any.
          let d = any_found set.clauses c any in
          learned_other s.variables (set.clauses ++ learned) c d.0 at_s (found_before set.clauses learned d.0 d.1) (λ l. (d.2 l).1));
      each_follows = unfollowed_pushed set.clauses learned c h.each_follows at_s.learnable.follows_it;
      each_new = new_pushed set.clauses learned c h.each_new (learned_new s.variables (set.clauses ++ learned) c at_s);
    }

pub spending_spent : (set : ClauseSet) (s : Search) (learned : List (List ℤ)) (n : ℕ) → Spending set s learned n → IsSpent set learned
spending_spent set s learned n h =
    record {
      clauses = h.learned_over;
      distinct = h.distinct;
      none_given = h.none_given;
      each_follows = ap is_some h.each_follows;
      each_new = h.each_new;
      open_end = h.undecided;
    }

-- ---- refutations

empty_follows : (v : ℕ) (cs : List (List ℤ)) → All (IsClauseOver v) cs → Reaches cs [] → follows cs [] ≡ true
empty_follows v cs over reaches = reaches-follows cs [] (over-nonzero v cs over) refl reaches

pub refuted_at_once : (v : ℕ) (cs steps : List (List ℤ)) → steps ≡ [] ∷ [] → All (IsClauseOver v) cs → Reaches cs [] → IsRefutation cs steps
refuted_at_once v cs steps is over reaches =
    subst (λ (xs : List (List ℤ)). IsRefutation cs xs) (sym is)
    (record { each_follows = ap is_some (unfollowed-later cs [] [] (empty_follows v cs over reaches)); ends = refl })

pub spending_refuted : (set : ClauseSet) (s : Search) (learned : List (List ℤ)) (n : ℕ) (c : List ℤ) (steps : List (List ℤ))
    → steps ≡ (learned ++ c ∷ []) ++ [] ∷ [] →
    IsLearned s.variables s.clauses c → Reaches (s.clauses ++ c ∷ []) [] → Spending set s learned n → IsRefutation set.clauses steps
spending_refuted set s learned n c steps is is_learned reaches h =
    let at_s : IsLearned s.variables (set.clauses ++ learned) c = subst (λ cs. IsLearned s.variables cs c) h.clauses is_learned in
    let over_c : IsClauseOver set.variables c = subst (λ v. IsClauseOver v c) h.variables is_learned.learnable.over in
    let whole : (set.clauses ++ learned) ++ c ∷ [] ≡ set.clauses ++ (learned ++ c ∷ []) = append_assoc set.clauses learned (c ∷ []) in
    let over = All-push (IsClauseOver set.variables) (set.clauses ++ learned) c h.over over_c in
    let reached : Reaches ((set.clauses ++ learned) ++ c ∷ []) [] = subst (λ cs. Reaches (cs ++ c ∷ []) []) h.clauses reaches in
    let last : follows (set.clauses ++ (learned ++ c ∷ [])) [] ≡ true =
    ap (λ cs. follows cs []) (sym whole) ∙ empty_follows set.variables ((set.clauses ++ learned) ++ c ∷ []) over reached in
    let before = unfollowed_pushed set.clauses learned c h.each_follows at_s.learnable.follows_it in
    subst (λ (xs : List (List ℤ)). IsRefutation set.clauses xs) (sym is)
    (record {
      each_follows = ap is_some (unfollowed_pushed set.clauses (learned ++ c ∷ []) [] before last);
      ends = ends_pushed (learned ++ c ∷ []);
    })

-- ---- as the loop meets them

learned_at : (s mid : Search) (c : List ℤ) → (mid.variables ≡ s.variables) × (mid.clauses ≡ s.clauses) → IsLearned mid.variables mid.clauses c
    → IsLearned s.variables s.clauses c
learned_at s mid c alike h = subst (λ v. IsLearned v s.clauses c) alike.0 (subst (λ cs. IsLearned mid.variables cs c) alike.1 h)

pub spending_step : (set : ClauseSet) (s mid short new : Search) (learned pushed : List (List ℤ)) (n : ℕ) (c d e : List ℤ) → d ≡ c → e ≡ c
    → IsLearned mid.variables mid.clauses c →
    (mid.variables ≡ s.variables) × (mid.clauses ≡ s.clauses) → (short.variables ≡ mid.variables) × (short.clauses ≡ mid.clauses)
    → new.variables ≡ short.variables →
    IsAtRest new × (new.clauses ≡ short.clauses ++ e ∷ []) → IsSome (propagated new.clauses) → pushed ≡ learned ++ d ∷ [] → Spending set s learned n
    → Spending set new pushed (n + 1)
spending_step set s mid short new learned pushed n c d e d_is e_is is_learned first second variables added undecided pushed_is h =
    let clauses : new.clauses ≡ s.clauses ++ c ∷ [] = added.1 ∙ ap (λ cs. cs ++ e ∷ []) (second.1 ∙ first.1) ∙ ap (λ x. s.clauses ++ x ∷ []) e_is in
    subst (λ xs. Spending set new xs (n + 1)) (sym (pushed_is ∙ ap (λ x. learned ++ x ∷ []) d_is))
    (spending_on set s new learned n c (learned_at s mid c first is_learned) (variables ∙ second.0 ∙ first.0) clauses added.0 undecided h)

pub spending_ended : (set : ClauseSet) (s mid short : Search) (learned pushed steps : List (List ℤ)) (n : ℕ) (c d e : List ℤ) → d ≡ c → e ≡ c
    → IsLearned mid.variables mid.clauses c →
    (mid.variables ≡ s.variables) × (mid.clauses ≡ s.clauses) → (short.variables ≡ mid.variables) × (short.clauses ≡ mid.clauses)
    → Reaches (short.clauses ++ e ∷ []) [] →
    pushed ≡ learned ++ d ∷ [] → steps ≡ pushed ++ [] ∷ [] → Spending set s learned n → IsRefutation set.clauses steps
spending_ended set s mid short learned pushed steps n c d e d_is e_is is_learned first second reaches pushed_is steps_is h =
    spending_refuted set s learned n c steps (steps_is ∙ ap (λ xs. xs ++ [] ∷ []) (pushed_is ∙ ap (λ x. learned ++ x ∷ []) d_is))
    (learned_at s mid c first is_learned)
    (subst (λ cs. Reaches (cs ++ c ∷ []) []) (second.1 ∙ first.1) (subst (λ x. Reaches (short.clauses ++ x ∷ []) []) e_is reaches)) h
