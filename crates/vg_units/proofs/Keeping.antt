-- What a search keeps when literals are made true and taken back.
use Rattle.std.proofs.Common.{◌≡◌, ℕ, zero, suc, ◌<◌, ◌≤◌, List, [], ◌∷◌, ◌++◌, length, take, get_or, true, false, refl, sym, ap, ◌∙◌, inl, inr, ◌⊎◌}
use Rattle.std.proofs.Common.{subst, arith, length-append, ltb}
use Rattle.std.specs.Prelude.{ℤ, pos, negsuc, neg_ℤ, unsigned_abs, ◌||◌, Contains, All, Option, None, Some, is_some, IsSome, Bool, not, MatchBool}
use Rattle.std.specs.Ordering.{int_eq}
use Rattle.std.proofs.Math.IntN.{neg_ℤ-neg_ℤ}
use Rattle.std.proofs.Math.ListN.{get_or-append}
use Rattle.std.proofs.Math.Seq.{get_or-append_seam}
use Rattle.std.proofs.lemmas.Bool.{cases_Bool, or_cases, or_left, or_from, false≢true, true≢false, ltb-true, ltb-false}
use Rattle.std.proofs.lemmas.List.{take-append-le, take_all, take-take, get_or-take, get_or_default, length-take-le}
use Rattle.std.proofs.lemmas.List.Elements.{All-from_get_or, All-push, Contains-push}
use Rattle.std.proofs.lemmas.List.Folds.{list_any-append}
use Rattle.vg_cnf.specs.Clauses.{holds, IsOver, IsClauseOver}
use Rattle.vg_cnf.specs.Orders.{IsConsistent, Settled, Reaches}
use Rattle.vg_cnf.specs.Orders as orders
use Rattle.vg_cnf.specs.Propagation.{propagated}
use Rattle.vg_cnf.proofs.Settled.{settled-propagated}
use Rattle.vg_cnf.proofs.Steps.{clash, same_literal}
use Rattle.vg_units.specs.Lists.{IsListedFrom}
use Rattle.vg_units.specs.Trails.{Made, IsMadeTrue}
use Rattle.vg_units.specs.Watching.{Watching, clause_of, pair_of, clause_in, pair_in, IsSame, IsAdded}
use Rattle.vg_units.specs.Propagating.{AreFalse, IsForced, Grown, same, more, IsWatched, by_true, by_open, AreWatched, AreWithin, Advances}
use Rattle.vg_units.specs.Propagating.{IsOpenBeside, AreFalseBeside}
use Rattle.vg_units.specs.Searching.{Search, IsAtRest, IsChain, IsSound, IsSameBut, IsEnd}
use Rattle.vg_units.specs.Levels.{IsKept, start_in}
use Rattle.vg_units.specs.declared.watches.Pair.{Pair}
use Rattle.vg_units.proofs.Listing.{same_or_other, listed_pushed, listed_last}
use Rattle.vg_units.proofs.Literals.{held_over}
use Rattle.vg_units.proofs.Watching.{each_added}
use Rattle.vg_units.proofs.Reaching.{AreDecided, chain_more, chain_conflict}
use Rattle.vg_units.proofs.Visiting.{apart_from, other_test, advances_same, contains_at, holds_before, holds_last, not_within, watched_more}
use Rattle.vg_units.proofs.Visiting.{watched_on, grown_longer, grown_prefix, held_prefix}

-- ---- literals made true

pub apart_self : (l : ℤ) → 0 < unsigned_abs l → int_eq (neg_ℤ l) l ≡ false
apart_self (pos zero) h = absurd (omega (arith, h))
apart_self (pos (suc n)) h = refl
apart_self (negsuc n) h = refl

pub held_pushed : (made : List ℤ) (l k : ℤ) → holds (made ++ l ∷ []) k ≡ true → (holds made k ≡ true) ⊎ (k ≡ l)
held_pushed made l k e =
    elim (or_cases (holds made k) (int_eq k l || false) (sym (list_any-append (int_eq k) made (l ∷ [])) ∙ e)) [
      | inl before ↦ inl before
      | inr here ↦
          elim (or_cases (int_eq k l) false here) [
            | inl is_l ↦ inr (same_literal k l is_l)
            | inr never ↦ absurd (false≢true never)
          ]
    ]

unheld_pushed : (made : List ℤ) (l k : ℤ) → holds made k ≡ false → int_eq k l ≡ false → holds (made ++ l ∷ []) k ≡ false
unheld_pushed made l k before apart =
    list_any-append (int_eq k) made (l ∷ []) ∙ or_from (holds made k) (int_eq k l || false) before (or_from (int_eq k l) false apart refl)

pub consistent_pushed : (made : List ℤ) (l : ℤ) → IsConsistent made → 0 < unsigned_abs l → holds made (neg_ℤ l) ≡ false → IsConsistent (made ++ l ∷ [])
consistent_pushed made l consistent nonzero not_false k e =
    elim (held_pushed made l k e) [
      | inl before ↦
          unheld_pushed made l (neg_ℤ k) (consistent k before)
          (elim (cases_Bool (int_eq (neg_ℤ k) l)) [
            | inl is_l ↦
                let k_is : k ≡ neg_ℤ l = sym (neg_ℤ-neg_ℤ k) ∙ ap neg_ℤ (same_literal (neg_ℤ k) l is_l) in
                clash (holds made k) before (ap (holds made) k_is ∙ not_false)
            | inr other ↦ other
          ])
      | inr is_l ↦
          unheld_pushed made l (neg_ℤ k) (ap (λ x. holds made (neg_ℤ x)) is_l ∙ not_false) (ap (λ x. int_eq (neg_ℤ x) l) is_l ∙ apart_self l nonzero)
    ]

pub chain_pushed : (cs : List (List ℤ)) (t : List ℤ) (starts : List ℕ) (l : ℤ) → IsListedFrom starts 0 (length t) ⊎ IsForced cs t l
    → IsChain cs t starts → IsChain cs (t ++ l ∷ []) starts
chain_pushed cs t starts l last chain at within =
    elim (same_or_other at (length t)) [
      | inl here ↦
          subst (λ n. IsListedFrom starts 0 n ⊎ IsForced cs (take n (t ++ l ∷ [])) (get_or (t ++ l ∷ []) n (pos 0))) (sym here)
          (subst (λ xs. IsListedFrom starts 0 (length t) ⊎ IsForced cs xs (get_or (t ++ l ∷ []) (length t) (pos 0)))
          (sym (take-append-le (length t) t (l ∷ []) (omega arith) ∙ take_all (length t) t (omega arith)))
          (subst (λ x. IsListedFrom starts 0 (length t) ⊎ IsForced cs t x) (sym (get_or-append_seam t l [] (pos 0))) last))
      | inr before ↦
          let inside : at < length t = omega (arith, within, before, length-append t (l ∷ [])) in
          subst (λ xs. IsListedFrom starts 0 at ⊎ IsForced cs xs (get_or (t ++ l ∷ []) at (pos 0))) (sym (take-append-le at t (l ∷ []) (omega (arith, inside))))
          (subst (λ x. IsListedFrom starts 0 at ⊎ IsForced cs (take at t) x) (sym (get_or-append t (l ∷ []) (pos 0) at inside)) (chain at inside))
    ]

pub chain_grown : (cs : List (List ℤ)) (old new : List ℤ) (starts : List ℕ) → Grown cs old new → IsChain cs old starts → IsChain cs new starts
chain_grown cs old new starts same chain = chain
chain_grown cs old new starts (more made l before forced fresh not_false) chain = chain_pushed cs made starts l (inr forced)
    (chain_grown cs old made starts before chain)

clause_found : (v : ℕ) (cs : List (List ℤ)) (c : List ℤ) → All (IsClauseOver v) cs → Contains cs c → IsClauseOver v c
clause_found v cs c all at = subst (IsClauseOver v) at.2 (all at.0 c at.1)

pub forced_over : (v : ℕ) (cs : List (List ℤ)) (made : List ℤ) (l : ℤ) → All (IsClauseOver v) cs → IsForced cs made l → IsOver v l
forced_over v cs made l all forced = held_over v forced.clause l (clause_found v cs forced.clause all forced.among).over forced.held

pub consistent_grown : (v : ℕ) (cs : List (List ℤ)) (old new : List ℤ) → All (IsClauseOver v) cs → Grown cs old new → IsConsistent old → IsConsistent new
consistent_grown v cs old new all same consistent = consistent
consistent_grown v cs old new all (more made l before forced fresh not_false) consistent =
    consistent_pushed made l (consistent_grown v cs old made all before consistent) (forced_over v cs made l all forced).0 not_false

-- ---- the steps of a search

pub kept_new : (w : Watching) (t : Made) → w.variables ≡ t.variables → w.clauses ≡ [] → t.literals ≡ [] → IsKept w t [] 0
kept_new w t variables clauses literals =
    record {
      variables = variables;
      over = subst (All (IsClauseOver w.variables)) (sym clauses) (λ k d below. absurd (omega arith));
      within = omega arith;
      watched = λ at inside. absurd (omega (arith, inside, ap length clauses));
      before = λ level inside. absurd (omega (arith, inside));
      levels = λ level inside. absurd (omega (arith, inside));
      sorted = λ level next le inside. absurd (omega (arith, inside));
      consistent = λ k e. absurd (false≢true (sym (ap (λ xs. holds xs k) literals) ∙ e));
      chain = λ at inside. absurd (omega (arith, inside, ap length literals));
    }

start_before : (starts : List ℕ) (n level : ℕ) → level < length starts → start_in (starts ++ n ∷ []) level ≡ start_in starts level
start_before starts n level inside = get_or-append starts (n ∷ []) 0 level inside

start_last : (starts : List ℕ) (n level : ℕ) → level ≡ length starts → start_in (starts ++ n ∷ []) level ≡ n
start_last starts n level last = ap (start_in (starts ++ n ∷ [])) last ∙ get_or-append_seam starts n [] 0

watched_at : (w : Watching) (t : List ℤ) (a b : ℕ) → a ≡ b → AreWatched w (take b t) (take b t) → AreWatched w (take a t) (take a t)
watched_at w t a b e h = subst (λ n. AreWatched w (take n t) (take n t)) (sym e) h

-- a level begins
pub kept_started : (w : Watching) (t : Made) (starts : List ℕ) (head : ℕ) → head ≡ length t.literals → IsKept w t starts head
    → IsKept w t (starts ++ length t.literals ∷ []) head
kept_started w t starts head propagated h =
    let n = length t.literals in
    let whole : take n t.literals ≡ t.literals = take_all n t.literals (omega arith) in
    let longer = length-append starts (n ∷ []) in
    record {
      variables = h.variables;
      over = h.over;
      within = h.within;
      watched = h.watched;
      before =
          λ level inside.
          elim (same_or_other level (length starts)) [
            | inl last ↦ omega (arith, start_last starts n level last, propagated)
            | inr other ↦
                let earlier : level < length starts = omega (arith, other, inside, longer) in
                omega (arith, start_before starts n level earlier, h.before level earlier)
          ];
      levels =
          λ level inside.
          elim (same_or_other level (length starts)) [
            | inl last ↦
                watched_at w t.literals (start_in (starts ++ n ∷ []) level) n (start_last starts n level last)
                (subst (λ xs. AreWatched w xs xs) (sym whole)
                (subst (AreWatched w t.literals) (ap (λ m. take m t.literals) propagated ∙ whole) h.watched))
            | inr other ↦
                let earlier : level < length starts = omega (arith, other, inside, longer) in
                watched_at w t.literals (start_in (starts ++ n ∷ []) level) (start_in starts level) (start_before starts n level earlier)
                (h.levels level earlier)
          ];
      sorted =
          λ level next le inside.
          elim (same_or_other next (length starts)) [
            | inl last ↦
                elim (same_or_other level (length starts)) [
                  | inl level_last ↦ omega (arith, start_last starts n level level_last, start_last starts n next last)
                  | inr other ↦
                      let earlier : level < length starts = omega (arith, other, le, last) in
                      omega (arith, start_last starts n next last, start_before starts n level earlier, h.before level earlier, propagated)
                ]
            | inr other ↦
                let next_in : next < length starts = omega (arith, other, inside, longer) in
                let level_in : level < length starts = omega (arith, le, next_in) in
                omega (arith, start_before starts n next next_in, start_before starts n level level_in, h.sorted level next le next_in)
          ];
      consistent = h.consistent;
      chain =
          λ at inside.
          elim (h.chain at inside) [
            | inl decided ↦ inl (listed_pushed starts n 0 at decided)
            | inr forced ↦ inr forced
          ];
    }

-- a literal is made true
pub kept_pushed : (w : Watching) (t : Made) (starts : List ℕ) (head : ℕ) (l : ℤ) → 0 < unsigned_abs l → holds t.literals (neg_ℤ l) ≡ false →
    IsListedFrom starts 0 (length t.literals) ⊎ IsForced w.clauses t.literals l → IsKept w t starts head
    → IsKept w (record t { literals = t.literals ++ l ∷ [] }) starts head
kept_pushed w t starts head l nonzero not_false last h =
    let prefix = λ (n : ℕ) (le : n ≤ head). take-append-le n t.literals (l ∷ []) (omega (arith, le, h.within)) in
    record {
      variables = h.variables;
      over = h.over;
      within = omega (arith, h.within, length-append t.literals (l ∷ []));
      watched =
          λ at inside.
          watched_more (clause_of w at) (pair_of w at) t.literals (t.literals ++ l ∷ []) (take head (t.literals ++ l ∷ []))
          (λ k e. list_any-append (int_eq k) t.literals (l ∷ []) ∙ or_left (holds t.literals k) (int_eq k l || false) e)
          (subst (IsWatched (clause_of w at) (pair_of w at) t.literals) (sym (prefix head (omega arith))) (h.watched at inside));
      before = h.before;
      levels =
          λ level inside.
          subst (λ xs. AreWatched w xs xs) (sym (prefix (start_in starts level) (h.before level inside))) (h.levels level inside);
      sorted = h.sorted;
      consistent = consistent_pushed t.literals l h.consistent nonzero not_false;
      chain = chain_pushed w.clauses t.literals starts l last h.chain;
    }

pub kept_decided : (w : Watching) (t : Made) (starts : List ℕ) (head : ℕ) (l : ℤ) → head ≡ length t.literals → 0 < unsigned_abs l
    → holds t.literals (neg_ℤ l) ≡ false → IsKept w t starts head →
    IsKept w (record t { literals = t.literals ++ l ∷ [] }) (starts ++ length t.literals ∷ []) head
kept_decided w t starts head l propagated nonzero not_false h =
    kept_pushed w t (starts ++ length t.literals ∷ []) head l nonzero not_false (inl (listed_last starts (length t.literals)))
    (kept_started w t starts head propagated h)

-- forced literals are made true
pub kept_advanced : (w new : Watching) (t u : Made) (starts : List ℕ) (head : ℕ) → Advances w new t u → IsKept w t starts head → IsKept new u starts head
kept_advanced w new t u starts head step h =
    let longer = grown_longer w.clauses t.literals u.literals step.grown in
    let prefix = λ (n : ℕ) (le : n ≤ head). grown_prefix w.clauses t.literals u.literals n (omega (arith, le, h.within)) step.grown in
    record {
      variables = step.variables ∙ h.variables ∙ sym step.trail_variables;
      over = subst (λ v. All (IsClauseOver v) new.clauses) (sym step.variables) (subst (All (IsClauseOver w.variables)) (sym step.clauses) h.over);
      within = omega (arith, h.within, longer);
      watched =
          subst (AreWatched new u.literals) (sym (prefix head (omega arith))) (watched_on w new t u (take head t.literals) step
          (held_prefix head t.literals) h.watched);
      before = h.before;
      levels =
          λ level inside.
          let n = start_in starts level in
          subst (λ xs. AreWatched new xs xs) (sym (prefix n (h.before level inside)))
          (λ at at_in.
          let here = subst (λ cs. at < length cs) step.clauses at_in in
          step.watched (take n t.literals) (take n t.literals) (held_prefix n t.literals) at here (h.levels level inside at here));
      sorted = h.sorted;
      consistent = consistent_grown w.variables w.clauses t.literals u.literals h.over step.grown h.consistent;
      chain = subst (λ cs. IsChain cs u.literals starts) (sym step.clauses) (chain_grown w.clauses t.literals u.literals starts step.grown h.chain);
    }

-- all is propagated
pub kept_propagated : (w : Watching) (t : Made) (starts : List ℕ) (head : ℕ) → AreWatched w t.literals t.literals → IsKept w t starts head
    → IsKept w t starts (length t.literals)
kept_propagated w t starts head watched h =
    record {
      variables = h.variables;
      over = h.over;
      within = omega arith;
      watched = subst (AreWatched w t.literals) (sym (take_all (length t.literals) t.literals (omega arith))) watched;
      before = λ level inside. omega (arith, h.before level inside, h.within);
      levels = h.levels;
      sorted = h.sorted;
      consistent = h.consistent;
      chain = h.chain;
    }

-- a level is taken back
pub kept_truncated : (w : Watching) (t : Made) (starts : List ℕ) (head level : ℕ) → level < length starts → IsKept w t starts head →
    IsKept w (record t { literals = take (start_in starts level) t.literals }) (take level starts) (start_in starts level)
kept_truncated w t starts head level inside h =
    let start = start_in starts level in
    let fits : start ≤ length t.literals = omega (arith, h.before level inside, h.within) in
    let shorter : length (take start t.literals) ≡ start = length-take-le start t.literals fits in
    let fewer : length (take level starts) ≡ level = length-take-le level starts (omega (arith, inside)) in
    let prefix = λ (n : ℕ) (le : n ≤ start). take-take n start t.literals le in
    let same_start = λ (n : ℕ) (le : n < level). get_or-take level starts n 0 le in
    record {
      variables = h.variables;
      over = h.over;
      within = omega (arith, shorter);
      watched = subst (AreWatched w (take start t.literals)) (sym (prefix start (omega arith))) (h.levels level inside);
      before =
          λ n n_in.
          let below : n < level = omega (arith, n_in, fewer) in
          omega (arith, same_start n below, h.sorted n level (omega (arith, below)) inside);
      levels =
          λ n n_in.
          let below : n < level = omega (arith, n_in, fewer) in
          let n_inside : n < length starts = omega (arith, below, inside) in
          watched_at w (take start t.literals) (start_in (take level starts) n) (start_in starts n) (same_start n below)
          (subst (λ xs. AreWatched w xs xs) (sym (prefix (start_in starts n) (h.sorted n level (omega (arith, below)) inside))) (h.levels n n_inside));
      sorted =
          λ n m le m_in.
          let m_below : m < level = omega (arith, m_in, fewer) in
          let n_below : n < level = omega (arith, m_below, le) in
          omega (arith, same_start n n_below, same_start m m_below, h.sorted n m le (omega (arith, m_below, inside)));
      consistent =
          λ k e.
          not_within (take start t.literals) t.literals (neg_ℤ k) (held_prefix start t.literals) (h.consistent k (held_prefix start t.literals k e));
      chain =
          λ at at_in.
          let below : at < start = omega (arith, at_in, shorter) in
          subst (λ x. IsListedFrom (take level starts) 0 at ⊎ IsForced w.clauses (take at (take start t.literals)) x)
          (sym (get_or-take start t.literals at (pos 0) below))
          (subst (λ xs. IsListedFrom (take level starts) 0 at ⊎ IsForced w.clauses xs (get_or t.literals at (pos 0))) (sym (prefix at (omega (arith, below))))
          (elim (h.chain at (omega (arith, below, fits))) [
            | inl decided ↦ inl (listed_earlier starts level at inside below h.sorted decided)
            | inr forced ↦ inr forced
          ]));
    }
  where
    listed_earlier : (starts : List ℕ) (level at : ℕ) → level < length starts → at < start_in starts level →
        ((n m : ℕ) → n ≤ m → m < length starts → start_in starts n ≤ start_in starts m) → IsListedFrom starts 0 at → IsListedFrom (take level starts) 0 at
    listed_earlier starts level at inside below sorted decided =
        elim (cases_Bool (ltb decided.0 level)) [
          | inl earlier ↦
              let k_below : decided.0 < level = ltb-true decided.0 level earlier in (
                decided.0,
                omega arith,
                omega (arith, k_below, length-take-le level starts (omega (arith, inside))),
                get_or-take level starts decided.0 0 k_below ∙ decided.3,
              )
          | inr later ↦
              let above : level ≤ decided.0 = ltb-false decided.0 level later in
              absurd (omega (arith, sorted level decided.0 above decided.2, decided.3, below))
        ]

-- where no clause needs a look each is settled
watched_settled : (clause : List ℤ) (pair : Pair) (made : List ℤ) → IsWatched clause pair made made → Settled made clause
watched_settled clause pair made (by_true l held t) = orders.by_true l held t
watched_settled clause pair made (by_open apart in_first in_second first second) = orders.by_two pair.first pair.second in_first in_second apart first second

pub all_settled : (w : Watching) (made : List ℤ) → AreWatched w made made → All (Settled made) w.clauses
all_settled w made watched =
    All-from_get_or (Settled made) w.clauses [] (λ at inside. watched_settled (clause_of w at) (pair_of w at) made (watched at inside))

pub end_settled : (old new : Search) (conflict : Option ℕ) → is_some conflict ≡ false → new.head ≡ length new.trail
    → All (Settled new.trail) new.clauses → IsEnd old new conflict
end_settled old new None e propagated settled = (propagated, settled)
end_settled old new (Some clause) e propagated settled = absurd (true≢false e)

-- what is read at a place that is there, whatever would be read elsewhere
pub start_read : (starts : List ℕ) (level start : ℕ) → level < length starts → start ≡ get_or starts level start → start_in starts level ≡ start
start_read starts level start inside e = get_or_default starts level 0 start inside ∙ sym e

pub kept_back : (w : Watching) (t u : Made) (starts fewer : List ℕ) (head level start : ℕ) → level < length starts → start ≡ get_or starts level start →
    u ≡ record t { literals = take start t.literals } → fewer ≡ take level starts → IsKept w t starts head → IsKept w u fewer start
kept_back w t u starts fewer head level start inside read trail_is starts_are h =
    let is = start_read starts level start inside read in
    subst (λ v. IsKept w v fewer start) (sym trail_is)
    (subst (λ xs. IsKept w (record t { literals = take start t.literals }) xs start) (sym starts_are)
    (subst (λ n. IsKept w (record t { literals = take n t.literals }) (take level starts) n) is (kept_truncated w t starts head level inside h)))

pub kept_settled : (w : Watching) (t : Made) (starts : List ℕ) (head : ℕ) → IsKept w t starts head → head ≡ length t.literals
    → All (Settled t.literals) w.clauses
kept_settled w t starts head h propagated =
    all_settled w t.literals (subst (AreWatched w t.literals) (ap (λ n. take n t.literals) propagated
    ∙ take_all (length t.literals) t.literals (omega arith)) h.watched)

-- ---- one clause more

pub kept_same : (w new : Watching) (t : Made) (starts : List ℕ) (head : ℕ) → IsSame w new → IsKept w t starts head → IsKept new t starts head
kept_same w new t starts head stay h = kept_advanced w new t t starts head (advances_same w new t stay) h

pub kept_added : (w new : Watching) (t u : Made) (starts : List ℕ) (head : ℕ) (c : List ℤ) (p : Pair) → starts ≡ [] → IsAdded w new c p
    → length w.pairs ≡ length w.clauses →
    IsClauseOver w.variables c → u.variables ≡ t.variables → AreWithin t.literals u.literals → head ≤ length u.literals
    → take head u.literals ≡ take head t.literals → IsConsistent u.literals →
    IsChain new.clauses u.literals starts → IsWatched c p u.literals (take head t.literals) → IsKept w t starts head → IsKept new u starts head
kept_added w new t u starts head c p base added paired over variables within fits prefix consistent chain watched h =
    record {
      variables = added.0 ∙ h.variables ∙ sym variables;
      over = subst (λ v. All (IsClauseOver v) new.clauses) (sym added.0) (subst (All (IsClauseOver w.variables)) (sym added.1)
          (All-push (IsClauseOver w.variables) w.clauses c h.over over));
      within = fits;
      watched =
          subst (AreWatched new u.literals) (sym prefix)
          (λ at inside.
          subst (λ cs. IsWatched (clause_in cs at) (pair_of new at) u.literals (take head t.literals)) (sym added.1)
          (subst (λ ps. IsWatched (clause_in (w.clauses ++ c ∷ []) at) (pair_in ps at) u.literals (take head t.literals)) (sym added.2)
          (each_added (λ d q n. IsWatched d q u.literals (take head t.literals)) w.clauses w.pairs c p paired
          (λ n n_in. watched_more (clause_of w n) (pair_of w n) t.literals u.literals (take head t.literals) within (h.watched n n_in)) watched at
          (subst (λ cs. at < length cs) added.1 inside))));
      before = λ level inside. absurd (omega (arith, inside, ap length base));
      levels = λ level inside. absurd (omega (arith, inside, ap length base));
      sorted = λ level next le inside. absurd (omega (arith, inside, ap length base));
      consistent = consistent;
      chain = chain;
    }

-- a clause with two literals that are not false
pub kept_open : (w new : Watching) (t : Made) (starts : List ℕ) (head : ℕ) (c : List ℤ) (first second : ℤ) → starts ≡ []
    → IsAdded w new c (record { first = first; second = second }) →
    length w.pairs ≡ length w.clauses → IsClauseOver w.variables c → holds c first ≡ true → holds t.literals (neg_ℤ first) ≡ false
    → IsOpenBeside t.literals c first second →
    IsKept w t starts head → IsKept new t starts head
kept_open w new t starts head c first second base added paired over held not_false beside h =
    kept_added w new t t starts head c (record { first = first; second = second }) base added paired over refl (λ k e. e) h.within refl h.consistent
    (subst (λ cs. IsChain cs t.literals starts) (sym added.1) (chain_more w.clauses (c ∷ []) t.literals starts h.chain))
    (by_open (other_test first second (λ e. apart_from second first beside.1 (sym e))) held beside.0
    (not_within (take head t.literals) t.literals (neg_ℤ first) (held_prefix head t.literals) not_false)
    (not_within (take head t.literals) t.literals (neg_ℤ second) (held_prefix head t.literals) beside.2)) h

-- a clause with just one
pub kept_single : (w new : Watching) (t u : Made) (starts : List ℕ) (head : ℕ) (c : List ℤ) (l : ℤ) → starts ≡ []
    → IsAdded w new c (record { first = l; second = l }) →
    length w.pairs ≡ length w.clauses → IsClauseOver w.variables c → holds c l ≡ true → 0 < unsigned_abs l → holds t.literals (neg_ℤ l) ≡ false
    → AreFalseBeside t.literals c l → IsMadeTrue t u l →
    IsKept w t starts head → IsKept new u starts head
kept_single w new t u starts head c l base added paired over held nonzero not_false others_false made h =
    let chain : IsChain new.clauses t.literals starts = subst (λ cs. IsChain cs t.literals starts) (sym added.1)
    (chain_more w.clauses (c ∷ []) t.literals starts h.chain) in
    let last : Contains new.clauses c = subst (λ cs. Contains cs c) (sym added.1) (Contains-push w.clauses c) in
    elim made [
      | inl before ↦
          subst (λ x. IsKept new x starts head) (sym before.0)
          (kept_added w new t t starts head c (record { first = l; second = l }) base added paired over refl (λ k e. e) h.within refl h.consistent
          chain (by_true l held before.1) h)
      | inr fresh ↦
          subst (λ x. IsKept new x starts head) (sym fresh.0)
          (kept_added w new t (record t { literals = t.literals ++ l ∷ [] }) starts head c (record { first = l; second = l }) base added paired over refl
          (λ k e. holds_before t.literals l k e) (omega (arith, h.within, length-append t.literals (l ∷ [])))
          (take-append-le head t.literals (l ∷ []) h.within) (consistent_pushed t.literals l h.consistent nonzero not_false)
          (chain_pushed new.clauses t.literals starts l (inr (record { clause = c; among = last; held = held; others_false = others_false })) chain)
          (by_true l held (holds_last t.literals l)) h)
    ]

-- ---- an empty clause that is reached with no decision

none_decided : (trail : List ℤ) (starts : List ℕ) → starts ≡ [] → AreDecided [] trail starts
none_decided trail starts base at listed = absurd (omega (arith, listed.2, ap length base))

pub false_reaches : (cs : List (List ℤ)) (trail : List ℤ) (starts : List ℕ) (c : List ℤ) → starts ≡ [] → IsChain cs trail starts → AreFalse trail c
    → Reaches (cs ++ c ∷ []) []
false_reaches cs trail starts c base chain falses =
    chain_conflict (cs ++ c ∷ []) trail starts [] c (chain_more cs (c ∷ []) trail starts chain) (none_decided trail starts base) (Contains-push cs c) falses

pub end_reaches : (cs : List (List ℤ)) (next new : Search) (end : Option ℕ) (none : Bool) → is_some end ≡ not none → next.starts ≡ []
    → next.clauses ≡ cs → IsSameBut next new → IsSound new →
    IsEnd next new end → MatchBool none (IsAtRest new × (new.clauses ≡ cs)) (Reaches cs [])
end_reaches cs next new None true e base clauses stay sound ended = ((stay.2 ∙ base, ended.0), stay.1 ∙ clauses)
end_reaches cs next new None false e base clauses stay sound ended = absurd (false≢true e)
end_reaches cs next new (Some clause) true e base clauses stay sound ended = absurd (true≢false e)
end_reaches cs next new (Some clause) false e base clauses stay sound ended =
    subst (λ xs. Reaches xs []) (stay.1 ∙ clauses)
    (chain_conflict new.clauses new.trail new.starts [] (get_or new.clauses clause []) sound.chain (none_decided new.trail new.starts (stay.2 ∙ base))
    (contains_at new.clauses clause ended.1) ended.2)

-- where all clauses are settled unit propagation ends
pub open_end : (cs : List (List ℤ)) (made : List ℤ) → IsConsistent made → All (Settled made) cs → IsSome (propagated cs)
open_end cs made consistent settled = ap is_some (settled-propagated (length cs) made cs consistent settled).1

pub end_open : (next new : Search) (end : Option ℕ) (none : Bool) → is_some end ≡ not none → IsSound new → IsEnd next new end → none ≡ true
    → IsSome (propagated new.clauses)
end_open next new None none e sound ended is_none = open_end new.clauses new.trail sound.consistent ended.1
end_open next new (Some clause) none e sound ended is_none = absurd (true≢false (e ∙ ap not is_none))

pub kept_ends : (w : Watching) (t : Made) (starts : List ℕ) (head : ℕ) → IsKept w t starts head → head ≡ length t.literals → IsSome (propagated w.clauses)
kept_ends w t starts head h whole = open_end w.clauses t.literals h.consistent (kept_settled w t starts head h whole)
