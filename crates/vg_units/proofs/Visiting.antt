-- What a look at a clause leaves.
use Rattle.std.proofs.Common.{◌≡◌, ℕ, zero, suc, ◌+◌, ◌<◌, ◌≤◌, List, [], ◌∷◌, ◌++◌, length, take, get_or, true, false, refl, sym, ap, ◌∙◌, inl, inr}
use Rattle.std.proofs.Common.{◌⊎◌, subst, arith, length-append}
use Rattle.std.specs.Prelude.{◌≢◌, ℤ, pos, neg_ℤ, set, ◌||◌, Contains, Result, Ok, Err, IfOk, OnErr, Option, None, Some, is_some}
use Rattle.std.specs.Ordering.{int_eq}
use Rattle.std.proofs.Math.IntN.{neg_ℤ-neg_ℤ}
use Rattle.std.proofs.lemmas.Bool.{cases_Bool, or_cases, or_left, or_right, or_from, false≢true, true≢false}
use Rattle.std.proofs.lemmas.List.Folds.{list_any-append, list_any_at}
use Rattle.std.proofs.lemmas.List.{get_or_default, get_or-set_same, get_or-set_other, take-append-le, take_more}
use Rattle.vg_cnf.specs.Clauses.{holds}
use Rattle.vg_cnf.proofs.Steps.{clash, same_literal, same_test}
use Rattle.vg_units.specs.Lists.{IsListedFrom}
use Rattle.vg_units.specs.Trails.{Made}
use Rattle.vg_units.specs.Watching.{Watching, list_of, clause_of, pair_of, clause_in, pair_in, no_pair, IsOneOf, IsSame, IsMoved, IsUnwatched, IsLeftOut}
use Rattle.vg_units.specs.Propagating.{AreFalse, Grown, same, more, IsWatched, by_true, by_open, IsWatchedAt, AreWatched, AreWithin, Advances}
use Rattle.vg_units.specs.Propagating.{IsOther, AreFalseBeside, Settles, Visits, Forces, Ends}
use Rattle.vg_units.specs.declared.watches.Pair.{Pair}
use Rattle.vg_units.specs.declared.propagation.Visit.{Visit}
use Rattle.vg_units.specs.declared.propagation.Visit.TheVariants.{Kept, Moved, Conflict}
use Rattle.vg_units.proofs.Listing.{same_or_other}

-- each clause needs no look for one more false literal, or stands in that literal's list from a place on
abbrev pub Pending : Watching → List ℤ → List ℤ → ℤ → ℕ → Type 0
Pending w made falses literal at =
    (clause : ℕ) → clause < length w.clauses → IsWatchedAt w clause made (neg_ℤ literal ∷ falses) ⊎ IsListedFrom (list_of w literal) at clause

-- ---- literals

pub other_test : (k l : ℤ) → k ≢ l → int_eq k l ≡ false
other_test k l apart =
    elim (cases_Bool (int_eq k l)) [
      | inl e ↦ absurd (apart (same_literal k l e))
      | inr e ↦ e
    ]

pub apart_from : (k l : ℤ) → int_eq k l ≡ false → k ≢ l
apart_from k l e same_one = true≢false (sym (same_test k l same_one) ∙ e)

pub neg-injective : (k l : ℤ) → neg_ℤ k ≡ neg_ℤ l → k ≡ l
neg-injective k l e = sym (neg_ℤ-neg_ℤ k) ∙ ap neg_ℤ e ∙ neg_ℤ-neg_ℤ l

pub holds_last : (made : List ℤ) (l : ℤ) → holds (made ++ l ∷ []) l ≡ true
holds_last made l =
    list_any-append (int_eq l) made (l ∷ []) ∙ or_right (holds made l) (int_eq l l || false) (or_left (int_eq l l) false (same_test l l refl))

pub holds_before : (made : List ℤ) (l k : ℤ) → holds made k ≡ true → holds (made ++ l ∷ []) k ≡ true
holds_before made l k e = list_any-append (int_eq k) made (l ∷ []) ∙ or_left (holds made k) (int_eq k l || false) e

-- one more false literal is not the negation of another
open_more : (falses : List ℤ) (k f : ℤ) → k ≢ f → holds falses (neg_ℤ k) ≡ false → holds (neg_ℤ f ∷ falses) (neg_ℤ k) ≡ false
open_more falses k f apart e =
    or_from (int_eq (neg_ℤ k) (neg_ℤ f)) (holds falses (neg_ℤ k)) (other_test (neg_ℤ k) (neg_ℤ f) (λ same_one. apart (neg-injective k f same_one))) e

-- what isn't among many is not among few
pub not_within : (few many : List ℤ) (k : ℤ) → AreWithin few many → holds many k ≡ false → holds few k ≡ false
not_within few many k within e =
    elim (cases_Bool (holds few k)) [
      | inl t ↦ clash (holds many k) (within k t) e
      | inr f ↦ f
    ]

-- ---- growth

pub grown_within : (cs : List (List ℤ)) (old new : List ℤ) → Grown cs old new → AreWithin old new
grown_within cs old new same k e = e
grown_within cs old new (more made l before forced fresh not_false) k e = holds_before made l k (grown_within cs old made before k e)

pub grown_trans : (cs : List (List ℤ)) (a b c : List ℤ) → Grown cs a b → Grown cs b c → Grown cs a c
grown_trans cs a b c first same = first
grown_trans cs a b c first (more made l before forced fresh not_false) = more made l (grown_trans cs a b made first before) forced fresh not_false

pub watched_more : (clause : List ℤ) (pair : Pair) (trues more_trues falses : List ℤ) → AreWithin trues more_trues
    → IsWatched clause pair trues falses → IsWatched clause pair more_trues falses
watched_more clause pair trues more_trues falses within (by_true l held t) = by_true l held (within l t)
watched_more clause pair trues more_trues falses within (by_open apart in_first in_second first second) = by_open apart in_first in_second first second

pub watched_fewer : (clause : List ℤ) (pair : Pair) (trues falses fewer : List ℤ) → AreWithin fewer falses → IsWatched clause pair trues falses
    → IsWatched clause pair trues fewer
watched_fewer clause pair trues falses fewer within (by_true l held t) = by_true l held t
watched_fewer clause pair trues falses fewer within (by_open apart in_first in_second first second) =
    by_open apart in_first in_second (not_within fewer falses (neg_ℤ pair.first) within first) (not_within fewer falses (neg_ℤ pair.second) within second)

pub advances_refl : (w : Watching) (t : Made) → Advances w w t t
advances_refl w t = record { variables = refl; trail_variables = refl; clauses = refl; watched = λ trues falses within at inside h. h; grown = same }

pub advances_trans : (a b c : Watching) (r s t : Made) → Advances a b r s → Advances b c s t → Advances a c r t
advances_trans a b c r s t first next =
    record {
      variables = next.variables ∙ first.variables;
      trail_variables = next.trail_variables ∙ first.trail_variables;
      clauses = next.clauses ∙ first.clauses;
      watched =
          λ trues falses within at inside h.
          next.watched trues falses (λ k e. grown_within a.clauses r.literals s.literals first.grown k (within k e)) at
          (subst (λ cs. at < length cs) (sym first.clauses) inside)
          (first.watched trues falses within at inside h);
      grown = grown_trans a.clauses r.literals s.literals t.literals first.grown (subst (λ cs. Grown cs s.literals t.literals) first.clauses next.grown);
    }

-- ---- the clauses and their pairs stay

same_watched : (old new : Watching) → new.clauses ≡ old.clauses → new.pairs ≡ old.pairs → (at : ℕ) (trues falses : List ℤ)
    → IsWatchedAt old at trues falses → IsWatchedAt new at trues falses
same_watched old new clauses pairs at trues falses h =
    subst (λ cs. IsWatched (clause_in cs at) (pair_of new at) trues falses) (sym clauses)
    (subst (λ ps. IsWatched (clause_of old at) (pair_in ps at) trues falses) (sym pairs) h)

pub advances_same : (old new : Watching) (t : Made) → IsSame old new → Advances old new t t
advances_same old new t stay =
    record {
      variables = stay.0;
      trail_variables = refl;
      clauses = stay.1;
      watched =
          λ trues falses within at inside h.
          same_watched old new stay.1 stay.2 at trues falses h;
      grown = same;
    }

-- a clause that doesn't watch the literal needs no look for it
unwatched_settles : (clause : List ℤ) (pair : Pair) (made falses : List ℤ) (f : ℤ) → pair.first ≢ f → pair.second ≢ f → IsWatched clause pair made falses →
    IsWatched clause pair made (neg_ℤ f ∷ falses)
unwatched_settles clause pair made falses f first second (by_true l held t) = by_true l held t
unwatched_settles clause pair made falses f first second (by_open apart in_first in_second p q) =
    by_open apart in_first in_second (open_more falses pair.first f first p) (open_more falses pair.second f second q)

pub visit_unwatched : (old new : Watching) (t : Made) (f : ℤ) (clause : ℕ) → IsSame old new → IsUnwatched old f clause → clause < length old.clauses →
    Settles old new t.literals t.literals f clause
visit_unwatched old new t f clause stay unwatched inside falses within h =
    let apart = unwatched inside in
    same_watched old new stay.1 stay.2 clause t.literals (neg_ℤ f ∷ falses)
    (unwatched_settles (clause_of old clause) (pair_of old clause) t.literals falses f apart.0 apart.1 h)

-- a clause that watches one literal twice, or is true by the other, needs no look
watched_twice : (clause : List ℤ) (pair : Pair) (made falses : List ℤ) (f : ℤ) → pair.first ≡ f → pair.second ≡ f → IsWatched clause pair made falses →
    IsWatched clause pair made (neg_ℤ f ∷ falses)
watched_twice clause pair made falses f first second (by_true l held t) = by_true l held t
watched_twice clause pair made falses f first second (by_open apart in_first in_second p q) =
    clash (int_eq pair.first pair.second) (same_test pair.first pair.second (first ∙ sym second)) apart

pub visit_twice : (w : Watching) (t : Made) (f : ℤ) (clause : ℕ) (other : ℤ) → IsOther w clause f other → other ≡ f → Settles w w t.literals t.literals f clause
visit_twice w t f clause other which same_one falses within h =
    elim which.pair [
      | inl p ↦ watched_twice (clause_of w clause) (pair_of w clause) t.literals falses f p.0 (p.1 ∙ same_one) h
      | inr p ↦ watched_twice (clause_of w clause) (pair_of w clause) t.literals falses f (p.1 ∙ same_one) p.0 h
    ]

pub visit_true : (w : Watching) (before made : List ℤ) (f : ℤ) (clause : ℕ) (other : ℤ) → IsOther w clause f other → holds made other ≡ true
    → Settles w w before made f clause
visit_true w before made f clause other which t falses within h = by_true other which.held t

-- ---- a forced literal

pub contains_at : (cs : List (List ℤ)) (at : ℕ) → at < length cs → Contains cs (clause_in cs at)
contains_at cs at within = (at, within, get_or_default cs at (clause_in cs at) [] within)

pub advances_forced : (w : Watching) (t : Made) (f : ℤ) (clause : ℕ) (other : ℤ) → IsOther w clause f other
    → AreFalseBeside t.literals (clause_of w clause) other →
    holds t.literals other ≡ false → holds t.literals (neg_ℤ other) ≡ false → Advances w w t (record t { literals = t.literals ++ other ∷ [] })
advances_forced w t f clause other which others_false not_true not_false =
    record {
      variables = refl;
      trail_variables = refl;
      clauses = refl;
      watched = λ trues falses within at inside h. h;
      grown =
          more t.literals other same
          (record { clause = clause_of w clause; among = contains_at w.clauses clause which.within; held = which.held; others_false = others_false })
          not_true not_false;
    }

pub all_false : (made clause : List ℤ) (other : ℤ) → AreFalseBeside made clause other → holds made (neg_ℤ other) ≡ true → AreFalse made clause
all_false made clause other others_false last k held =
    elim (cases_Bool (int_eq k other)) [
      | inl is_other ↦ ap (λ x. holds made (neg_ℤ x)) (same_literal k other is_other) ∙ last
      | inr apart ↦ others_false k held apart
    ]

-- ---- another watched literal

-- the one that stays is among the pair
stays_open : (pair : Pair) (f other : ℤ) (falses : List ℤ) → ((pair.first ≡ f) × (pair.second ≡ other)) ⊎ ((pair.second ≡ f) × (pair.first ≡ other))
    → holds falses (neg_ℤ pair.first) ≡ false →
    holds falses (neg_ℤ pair.second) ≡ false → holds falses (neg_ℤ other) ≡ false
stays_open pair f other falses which first second =
    elim which [
      | inl p ↦ ap (λ k. holds falses (neg_ℤ k)) (sym p.1) ∙ second
      | inr p ↦ ap (λ k. holds falses (neg_ℤ k)) (sym p.1) ∙ first
    ]

stays_held : (clause : List ℤ) (pair : Pair) (f other : ℤ) → ((pair.first ≡ f) × (pair.second ≡ other)) ⊎ ((pair.second ≡ f) × (pair.first ≡ other))
    → holds clause pair.first ≡ true →
    holds clause pair.second ≡ true → holds clause other ≡ true
stays_held clause pair f other which first second =
    elim which [
      | inl p ↦ ap (holds clause) (sym p.1) ∙ second
      | inr p ↦ ap (holds clause) (sym p.1) ∙ first
    ]

moved_watched : (clause : List ℤ) (pair : Pair) (trues falses : List ℤ) (f other k : ℤ) → ((pair.first ≡ f) × (pair.second ≡ other))
    ⊎ ((pair.second ≡ f) × (pair.first ≡ other)) →
    other ≢ k → holds clause k ≡ true → holds falses (neg_ℤ k) ≡ false → IsWatched clause pair trues falses
    → IsWatched clause (record { first = other; second = k }) trues falses
moved_watched clause pair trues falses f other k which apart held_k not_false (by_true l held t) = by_true l held t
moved_watched clause pair trues falses f other k which apart held_k not_false (by_open two in_first in_second first second) =
    by_open (other_test other k apart) (stays_held clause pair f other which in_first in_second) held_k
    (stays_open pair f other falses which first second) not_false

moved_settles : (clause : List ℤ) (pair : Pair) (made falses : List ℤ) (f other k : ℤ) → ((pair.first ≡ f) × (pair.second ≡ other))
    ⊎ ((pair.second ≡ f) × (pair.first ≡ other)) →
    other ≢ k → holds clause k ≡ true → other ≢ f → k ≢ f → holds falses (neg_ℤ k) ≡ false → IsWatched clause pair made falses
    → IsWatched clause (record { first = other; second = k }) made (neg_ℤ f ∷ falses)
moved_settles clause pair made falses f other k which apart held_k other_f k_f not_false (by_true l held t) = by_true l held t
moved_settles clause pair made falses f other k which apart held_k other_f k_f not_false (by_open two in_first in_second first second) =
    by_open (other_test other k apart) (stays_held clause pair f other which in_first in_second) held_k
    (open_more falses other f other_f (stays_open pair f other falses which first second)) (open_more falses k f k_f not_false)

set_pair : (ps : List Pair) (at : ℕ) (p : Pair) → at < length ps → pair_in (set ps at p) at ≡ p
set_pair ps at p within = get_or-set_same ps at p no_pair within

pub advances_moved : (old new : Watching) (t : Made) (clause : ℕ) (f other k : ℤ) → IsMoved old new clause (record { first = other; second = k })
    → IsOther old clause f other → other ≢ k →
    holds (clause_of old clause) k ≡ true → holds t.literals (neg_ℤ k) ≡ false → length old.pairs ≡ length old.clauses → Advances old new t t
advances_moved old new t clause f other k moved which apart held_k not_false paired =
    record {
      variables = moved.0;
      trail_variables = refl;
      clauses = moved.1;
      watched =
          λ trues falses within at inside h.
          subst (λ cs. IsWatched (clause_in cs at) (pair_of new at) trues falses) (sym moved.1)
          (subst (λ ps. IsWatched (clause_of old at) (pair_in ps at) trues falses) (sym moved.2)
          (elim (same_or_other at clause) [
            | inl here ↦
                subst (λ q. IsWatched (clause_of old at) q trues falses)
                (sym (ap (pair_in (set old.pairs clause (record { first = other; second = k }))) here
                ∙ set_pair old.pairs clause (record { first = other; second = k }) (omega (arith, which.within, paired))))
                (moved_watched (clause_of old at) (pair_of old at) trues falses f other k
                (subst (λ n. (((pair_of old n).first ≡ f) × ((pair_of old n).second ≡ other))
                ⊎ (((pair_of old n).second ≡ f) × ((pair_of old n).first ≡ other))) (sym here) which.pair)
                apart (ap (λ n. holds (clause_of old n) k) here ∙ held_k) (not_within falses t.literals (neg_ℤ k) within not_false) h)
            | inr elsewhere ↦
                subst (λ q. IsWatched (clause_of old at) q trues falses)
                (sym (get_or-set_other old.pairs clause at (record { first = other; second = k }) no_pair elsewhere)) h
          ]));
      grown = same;
    }

pub visit_moved : (old new : Watching) (t : Made) (clause : ℕ) (f other k : ℤ) → IsMoved old new clause (record { first = other; second = k })
    → IsOther old clause f other → other ≢ k →
    holds (clause_of old clause) k ≡ true → other ≢ f → k ≢ f → holds t.literals (neg_ℤ k) ≡ false → length old.pairs ≡ length old.clauses
    → Settles old new t.literals t.literals f clause
visit_moved old new t clause f other k moved which apart held_k other_f k_f not_false paired falses within h =
    subst (λ cs. IsWatched (clause_in cs clause) (pair_of new clause) t.literals (neg_ℤ f ∷ falses)) (sym moved.1)
    (subst (λ ps. IsWatched (clause_of old clause) (pair_in ps clause) t.literals (neg_ℤ f ∷ falses)) (sym moved.2)
    (subst (λ q. IsWatched (clause_of old clause) q t.literals (neg_ℤ f ∷ falses))
    (sym (get_or-set_same old.pairs clause (record { first = other; second = k }) no_pair (omega (arith, which.within, paired))))
    (moved_settles (clause_of old clause) (pair_of old clause) t.literals falses f other k which.pair apart held_k other_f k_f
    (not_within falses t.literals (neg_ℤ k) within not_false) h)))

-- ---- a look that forces a literal or finds a false clause

pub forced_advances : {E : Type 0} (w : Watching) (t new : Made) (f : ℤ) (clause : ℕ) (other : ℤ) (result : Result Visit E) → IsOther w clause f other →
    AreFalseBeside t.literals (clause_of w clause) other → holds t.literals other ≡ false → IfOk result (Forces t new clause other)
    → OnErr result (new ≡ t) → Advances w w t new
forced_advances w t new f clause other (Ok Kept) which others_false not_true forces err =
    subst (Advances w w t) (sym forces.1) (advances_forced w t f clause other which others_false not_true forces.0)
forced_advances w t new f clause other (Ok Moved) which others_false not_true forces err = absurd forces
forced_advances w t new f clause other (Ok (Conflict at)) which others_false not_true forces err = subst (Advances w w t) (sym forces.2) (advances_refl w t)
forced_advances w t new f clause other (Err e) which others_false not_true forces err = subst (Advances w w t) (sym err) (advances_refl w t)

pub forced_visits : {E : Type 0} (w : Watching) (t new : Made) (f : ℤ) (at clause : ℕ) (other : ℤ) (result : Result Visit E) → IsOther w clause f other →
    AreFalseBeside t.literals (clause_of w clause) other → IfOk result (Forces t new clause other)
    → IfOk result (Visits w w t.literals new.literals f at clause)
forced_visits w t new f at clause other (Ok Kept) which others_false forces = (
  refl,
  λ inside. visit_true w t.literals new.literals f clause other which (ap (λ m. holds m.literals other) forces.1 ∙ holds_last t.literals other),
)
forced_visits w t new f at clause other (Ok Moved) which others_false forces = absurd forces
forced_visits w t new f at clause other (Ok (Conflict c)) which others_false forces = (
  subst (λ n. n < length w.clauses) (sym forces.0) which.within,
  subst (λ n. AreFalse new.literals (clause_in w.clauses n)) (sym forces.0)
      (subst (λ m. AreFalse m.literals (clause_of w clause)) (sym forces.2) (all_false t.literals (clause_of w clause) other others_false forces.1)),
)
forced_visits w t new f at clause other (Err e) which others_false forces = tt

-- ---- the list of a literal that became false

pub pending_starts : (w : Watching) (made falses : List ℤ) (f : ℤ) → AreWatched w made falses →
    ((clause : ℕ) → clause < length w.clauses → IsOneOf (pair_of w clause) f → IsListedFrom (list_of w f) 0 clause) → Pending w made falses f 0
pending_starts w made falses f watched listed clause inside =
    elim (cases_Bool (int_eq (pair_of w clause).first f)) [
      | inl first ↦ inr (listed clause inside (inl (same_literal (pair_of w clause).first f first)))
      | inr not_first ↦
          elim (cases_Bool (int_eq (pair_of w clause).second f)) [
            | inl second ↦ inr (listed clause inside (inr (same_literal (pair_of w clause).second f second)))
            | inr not_second ↦
                inl
                (unwatched_settles (clause_of w clause) (pair_of w clause) made falses f (apart_from (pair_of w clause).first f not_first)
                (apart_from (pair_of w clause).second f not_second) (watched clause inside))
          ]
    ]

-- what stands in a list from a place on stands there or after it
listed_after : (list : List ℕ) (at entry : ℕ) → entry ≢ get_or list at 0 → IsListedFrom list at entry → IsListedFrom list (at + 1) entry
listed_after list at entry other h =
    let elsewhere : h.0 ≢ at = λ e. other (sym h.3 ∙ ap (λ i. get_or list i 0) e) in
    (h.0, omega (arith, elsewhere, h.1), h.2, h.3)

pub pending_kept : (w : Watching) (before made falses : List ℤ) (f : ℤ) (at : ℕ) → AreWithin before made → AreWithin falses before → AreWatched w made falses →
    (get_or (list_of w f) at 0 < length w.clauses → Settles w w before made f (get_or (list_of w f) at 0)) → Pending w before falses f at
    → Pending w made falses f (at + 1)
pending_kept w before made falses f at longer within watched settles pending clause inside =
    elim (same_or_other clause (get_or (list_of w f) at 0)) [
      | inl here ↦
          inl
          (subst (λ n. IsWatchedAt w n made (neg_ℤ f ∷ falses)) (sym here)
          (settles (subst (λ n. n < length w.clauses) here inside) falses within (subst (λ n. IsWatchedAt w n made falses) here (watched clause inside))))
      | inr other ↦
          elim (pending clause inside) [
            | inl done ↦ inl (watched_more (clause_of w clause) (pair_of w clause) before made (neg_ℤ f ∷ falses) longer done)
            | inr later ↦ inr (listed_after (list_of w f) at clause other later)
          ]
    ]

pub pending_moved : (old new : Watching) (before after : Made) (falses : List ℤ) (f : ℤ) (at entry : ℕ) → Advances old new before after
    → AreWithin falses before.literals →
    holds before.literals (neg_ℤ f) ≡ true → AreWatched old after.literals falses → IsLeftOut old.lists new.lists f at entry →
    (entry < length old.clauses → Settles old new before.literals after.literals f entry) → Pending old before.literals falses f at
    → Pending new after.literals falses f at
pending_moved old new before after falses f at entry advances within f_false watched gone settles pending clause inside_new =
    let inside : clause < length old.clauses = subst (λ cs. clause < length cs) advances.clauses inside_new in
    elim (same_or_other clause entry) [
      | inl here ↦
          inl
          (subst (λ n. IsWatchedAt new n after.literals (neg_ℤ f ∷ falses)) (sym here)
          (settles (subst (λ n. n < length old.clauses) here inside) falses within (subst (λ n. IsWatchedAt old n after.literals falses) here
          (watched clause inside))))
      | inr other ↦
          elim (pending clause inside) [
            | inl done ↦
                inl
                (watched_more (clause_of new clause) (pair_of new clause) before.literals after.literals (neg_ℤ f ∷ falses)
                (grown_within old.clauses before.literals after.literals advances.grown)
                (advances.watched before.literals (neg_ℤ f ∷ falses) (within_more falses before.literals (neg_ℤ f) f_false within) clause inside done))
            | inr later ↦ inr (gone.others clause other later)
          ]
    ]
  where
    within_more : (few many : List ℤ) (l : ℤ) → holds many l ≡ true → AreWithin few many → AreWithin (l ∷ few) many
    within_more few many l here within k e =
        elim (or_cases (int_eq k l) (holds few k) e) [
          | inl is_l ↦ ap (holds many) (same_literal k l is_l) ∙ here
          | inr before ↦ within k before
        ]

pub pending_ends : (w : Watching) (made falses : List ℤ) (f : ℤ) (at : ℕ) → length (list_of w f) ≤ at → Pending w made falses f at
    → AreWatched w made (neg_ℤ f ∷ falses)
pending_ends w made falses f at end pending clause inside =
    elim (pending clause inside) [
      | inl done ↦ done
      | inr later ↦ absurd (omega (arith, end, later.1, later.2))
    ]

-- what needed no look still needs none
pub watched_on : (old new : Watching) (before after : Made) (falses : List ℤ) → Advances old new before after → AreWithin falses before.literals
    → AreWatched old before.literals falses →
    AreWatched new after.literals falses
watched_on old new before after falses advances within watched clause inside_new =
    let inside : clause < length old.clauses = subst (λ cs. clause < length cs) advances.clauses inside_new in
    watched_more (clause_of new clause) (pair_of new clause) before.literals after.literals falses
    (grown_within old.clauses before.literals after.literals advances.grown)
    (advances.watched before.literals falses within clause inside (watched clause inside))

-- ---- prefixes of a trail

pub grown_longer : (cs : List (List ℤ)) (old new : List ℤ) → Grown cs old new → length old ≤ length new
grown_longer cs old new same = omega arith
grown_longer cs old new (more made l before forced fresh not_false) = omega (arith, grown_longer cs old made before, length-append made (l ∷ []))

pub grown_prefix : (cs : List (List ℤ)) (old new : List ℤ) (n : ℕ) → n ≤ length old → Grown cs old new → take n new ≡ take n old
grown_prefix cs old new n within same = refl
grown_prefix cs old new n within (more made l before forced fresh not_false) =
    take-append-le n made (l ∷ []) (omega (arith, within, grown_longer cs old made before)) ∙ grown_prefix cs old made n within before

pub held_prefix : (n : ℕ) (made : List ℤ) → AreWithin (take n made) made
held_prefix zero made k e = absurd (false≢true e)
held_prefix (suc n) [] k e = e
held_prefix (suc n) (x ∷ made) k e =
    elim (or_cases (int_eq k x) (holds (take n made) k) e) [
      | inl here ↦ or_left (int_eq k x) (holds made k) here
      | inr later ↦ or_right (int_eq k x) (holds made k) (held_prefix n made k later)
    ]

pub held_at : (made : List ℤ) (i : ℕ) → i < length made → holds made (get_or made i (pos 0)) ≡ true
held_at made i within = list_any_at (int_eq (get_or made i (pos 0))) made i (pos 0) within (same_test (get_or made i (pos 0)) (get_or made i (pos 0)) refl)

-- the first literals and one more
pub one_more_false : (made : List ℤ) (n : ℕ) (l : ℤ) → n < length made → l ≡ get_or made n (pos 0) → AreWithin (take (n + 1) made) (l ∷ take n made)
one_more_false made n l within e k held =
    elim (or_cases (holds (take n made) k) (int_eq k l || false)
    (sym (ap (λ xs. holds xs k) (take_more made n (pos 0) within ∙ ap (λ y. take n made ++ y ∷ []) (sym e))
    ∙ list_any-append (int_eq k) (take n made) (l ∷ [])) ∙ held)) [
      | inl before ↦ or_right (int_eq k l) (holds (take n made) k) before
      | inr here ↦
          elim (or_cases (int_eq k l) false here) [
            | inl is_l ↦ or_left (int_eq k l) (holds (take n made) k) is_l
            | inr never ↦ absurd (false≢true never)
          ]
    ]

-- ---- one step through the list

pub look_kept : (w0 old new : Watching) (t0 before after : Made) (falses : List ℤ) (f : ℤ) (at : ℕ) → Advances w0 old t0 before
    → AreWithin falses t0.literals → AreWatched w0 t0.literals falses →
    Advances old new before after → new ≡ old → (get_or (list_of old f) at 0 < length old.clauses
    → Settles old new before.literals after.literals f (get_or (list_of old f) at 0)) →
    Pending old before.literals falses f at → Pending new after.literals falses f (at + 1)
look_kept w0 old new t0 before after falses f at so_far within watched step is_old settles pending =
    let longer = grown_within old.clauses before.literals after.literals step.grown in
    let still = watched_on w0 old t0 before falses so_far within watched in
    subst (λ w. Pending w after.literals falses f (at + 1)) (sym is_old)
    (pending_kept old before.literals after.literals falses f at longer
    (λ k e. grown_within w0.clauses t0.literals before.literals so_far.grown k (within k e))
    (λ clause inside. watched_more (clause_of old clause) (pair_of old clause) before.literals after.literals falses longer (still clause inside))
    (λ inside. subst (λ w. Settles old w before.literals after.literals f (get_or (list_of old f) at 0)) is_old (settles inside)) pending)

pub look_moved : (w0 old new : Watching) (t0 before after : Made) (falses : List ℤ) (f : ℤ) (at : ℕ) → Advances w0 old t0 before
    → AreWithin falses t0.literals → AreWatched w0 t0.literals falses →
    Advances old new before after → holds t0.literals (neg_ℤ f) ≡ true → IsLeftOut old.lists new.lists f at (get_or (list_of old f) at 0) →
    (get_or (list_of old f) at 0 < length old.clauses → Settles old new before.literals after.literals f (get_or (list_of old f) at 0)) →
    Pending old before.literals falses f at → Pending new after.literals falses f at
look_moved w0 old new t0 before after falses f at so_far within watched step f_false gone settles pending =
    let earlier = grown_within w0.clauses t0.literals before.literals so_far.grown in
    let longer = grown_within old.clauses before.literals after.literals step.grown in
    let still = watched_on w0 old t0 before falses so_far within watched in
    pending_moved old new before after falses f at (get_or (list_of old f) at 0) step (λ k e. earlier k (within k e)) (earlier (neg_ℤ f) f_false)
    (λ clause inside. watched_more (clause_of old clause) (pair_of old clause) before.literals after.literals falses longer (still clause inside))
    gone settles pending

-- at the end of the list no clause needs a look for that literal either
pub look_ends : (w0 w : Watching) (t0 t : Made) (f : ℤ) (head at : ℕ) → Advances w0 w t0 t → head < length t0.literals
    → f ≡ neg_ℤ (get_or t0.literals head (pos 0)) → length (list_of w f) ≤ at →
    Pending w t.literals (take head t0.literals) f at → AreWatched w t.literals (take (head + 1) t.literals)
look_ends w0 w t0 t f head at so_far within f_is end pending clause inside =
    let prefix : take (head + 1) t.literals ≡ take (head + 1) t0.literals = grown_prefix w0.clauses t0.literals t.literals (head + 1)
    (omega (arith, within)) so_far.grown in
    let back : neg_ℤ f ≡ get_or t0.literals head (pos 0) = ap neg_ℤ f_is ∙ neg_ℤ-neg_ℤ (get_or t0.literals head (pos 0)) in
    watched_fewer (clause_of w clause) (pair_of w clause) t.literals (neg_ℤ f ∷ take head t0.literals) (take (head + 1) t.literals)
    (λ k e. one_more_false t0.literals head (neg_ℤ f) within back k (sym (ap (λ xs. holds xs k) prefix) ∙ e))
    (pending_ends w t.literals (take head t0.literals) f at end pending clause inside)

pub ends_watched : (w : Watching) (made falses : List ℤ) (conflict : Option ℕ) → is_some conflict ≡ false → Ends w made falses conflict
    → AreWatched w made falses
ends_watched w made falses None e ends = ends
ends_watched w made falses (Some clause) e ends = absurd (true≢false e)
