-- Literals of a clause that are assumed false one by one.
use Rattle.std.proofs.Common.{◌≡◌, ℕ, ◌+◌, ◌<◌, ◌≤◌, List, [], ◌∷◌, ◌++◌, length, take, get_or, true, false, refl, sym, ap, ◌∙◌, inl, inr, ◌⊎◌, subst}
use Rattle.std.proofs.Common.{arith, length-append, append_assoc}
use Rattle.std.specs.Prelude.{ℤ, pos, neg_ℤ, Bool, not, ◌||◌, All, Option, Some, None, is_some}
use Rattle.std.specs.List.{list_all}
use Rattle.std.specs.Ordering.{int_eq}
use Rattle.std.proofs.Math.IntN.{neg_ℤ-neg_ℤ}
use Rattle.std.proofs.Math.ListN.{get_or-append}
use Rattle.std.proofs.Math.Seq.{get_or-append_seam, take-append_seam}
use Rattle.std.proofs.lemmas.Bool.{cases_Bool, and_parts, or_cases, or_left, or_right, false≢true, true≢false}
use Rattle.std.proofs.lemmas.List.Folds.{list_any_at, list_any-append}
use Rattle.std.proofs.lemmas.List.{append-nil, take_more, take_all}
use Rattle.vg_cnf.specs.Clauses.{holds, is_clause, IsClauseOver}
use Rattle.vg_cnf.specs.Orders.{IsConsistent, Settled, negations, Reaches}
use Rattle.vg_cnf.specs.Propagation.{follows}
use Rattle.vg_cnf.proofs.Steps.{clash, or_rest, same_literal, same_test, not_true_back}
use Rattle.vg_cnf.proofs.Orders.{reaches-follows, settled-follows}
use Rattle.vg_units.specs.Lists.{IsListedFrom}
use Rattle.vg_units.specs.Propagating.{Grown, same, more, AreWithin}
use Rattle.vg_units.specs.Levels.{start_in}
use Rattle.vg_units.specs.Searching.{Search, IsAtRest, IsSound, IsSameBut, IsEnd, Rests, Assumes, AssumesAlso, TellsBeside, IsBeyond, IsFurther}
use Rattle.vg_units.proofs.Listing.{same_or_other}
use Rattle.vg_units.proofs.Visiting.{grown_within, grown_longer, contains_at, holds_last, holds_before, held_prefix}
use Rattle.vg_units.proofs.Keeping.{held_pushed}
use Rattle.vg_units.proofs.Reaching.{AreDecided, Reaches-more, chain_conflict, chain_clash, over-nonzero}

-- ---- negations

pub negations-push : (p : List ℤ) (x : ℤ) → negations (p ++ x ∷ []) ≡ negations p ++ neg_ℤ x ∷ []
negations-push [] x = refl
negations-push (y ∷ p) x = ap (λ ys. neg_ℤ y ∷ ys) (negations-push p x)

negation_swap : (k x : ℤ) → int_eq k (neg_ℤ x) ≡ int_eq (neg_ℤ k) x
negation_swap k x =
    elim (cases_Bool (int_eq k (neg_ℤ x))) [
      | inl alike ↦ alike ∙ sym (same_test (neg_ℤ k) x (ap neg_ℤ (same_literal k (neg_ℤ x) alike) ∙ neg_ℤ-neg_ℤ x))
      | inr apart ↦
          elim (cases_Bool (int_eq (neg_ℤ k) x)) [
            | inl alike ↦ clash (int_eq k (neg_ℤ x)) (same_test k (neg_ℤ x) (sym (neg_ℤ-neg_ℤ k) ∙ ap neg_ℤ (same_literal (neg_ℤ k) x alike))) apart
            | inr other ↦ apart ∙ sym other
          ]
    ]

pub holds-negations : (c : List ℤ) (k : ℤ) → holds (negations c) k ≡ holds c (neg_ℤ k)
holds-negations [] k = refl
holds-negations (x ∷ c) k =
    ap (λ b. b || holds (negations c) k) (negation_swap k x) ∙ ap (λ b. int_eq (neg_ℤ k) x || b) (holds-negations c k)

pub negated-held : (c : List ℤ) (l : ℤ) → holds c l ≡ true → holds (negations c) (neg_ℤ l) ≡ true
negated-held c l e = holds-negations c (neg_ℤ l) ∙ ap (holds c) (neg_ℤ-neg_ℤ l) ∙ e

pub test_at : (p : ℤ → Bool) (l : ℤ) (c : List ℤ) → holds c l ≡ true → list_all p c ≡ true → p l ≡ true
test_at p l [] here all = absurd (false≢true here)
test_at p l (k ∷ c) here all =
    let parts = and_parts (p k) (list_all p c) all in
    elim (cases_Bool (int_eq l k)) [
      | inl is_k ↦ ap p (same_literal l k is_k) ∙ parts.0
      | inr not_k ↦ test_at p l c (or_rest (int_eq l k) (holds c l) here not_k) parts.1
    ]

pub negations-consistent : (c : List ℤ) → is_clause c ≡ true → IsConsistent (negations c)
negations-consistent c clause k e =
    holds-negations c (neg_ℤ k)
    ∙ not_true_back (holds c (neg_ℤ (neg_ℤ k))) (test_at (λ l. not (holds c (neg_ℤ l))) (neg_ℤ k) c (sym (holds-negations c k) ∙ e) clause)

-- ---- literals of lists

pub left_within : (a b : List ℤ) → AreWithin a (a ++ b)
left_within a b k e = list_any-append (int_eq k) a b ∙ or_left (holds a k) (holds b k) e

pub right_within : (a b : List ℤ) → AreWithin b (a ++ b)
right_within a b k e = list_any-append (int_eq k) a b ∙ or_right (holds a k) (holds b k) e

pub both_within : (a b c : List ℤ) → AreWithin a c → AreWithin b c → AreWithin (a ++ b) c
both_within a b c in_a in_b k e =
    elim (or_cases (holds a k) (holds b k) (sym (list_any-append (int_eq k) a b) ∙ e)) [
      | inl of_a ↦ in_a k of_a
      | inr of_b ↦ in_b k of_b
    ]

pub negations_within : (few many : List ℤ) → AreWithin few many → AreWithin (negations few) (negations many)
negations_within few many within k e = holds-negations many k ∙ within (neg_ℤ k) (sym (holds-negations few k) ∙ e)

pub read_held : (list : List ℤ) (at : ℕ) (l : ℤ) → at < length list → l ≡ get_or list at l → holds list l ≡ true
read_held list at l inside read = list_any_at (int_eq l) list at l inside (same_test l (get_or list at l) read)

-- ---- decisions

wider : (few many trail : List ℤ) (starts : List ℕ) → AreWithin few many → AreDecided few trail starts → AreDecided many trail starts
wider few many trail starts within decided at listed = let before = decided at listed in (before.0, within (get_or trail at (pos 0)) before.1)

grown_same : (cs : List (List ℤ)) (old new : List ℤ) (i : ℕ) → i < length old → Grown cs old new → get_or new i (pos 0) ≡ get_or old i (pos 0)
grown_same cs old new i inside same = refl
grown_same cs old new i inside (more made l before forced fresh not_false) =
    get_or-append made (l ∷ []) (pos 0) i (omega (arith, inside, grown_longer cs old made before)) ∙ grown_same cs old made i inside before

listed_cases : (list : List ℕ) (n entry : ℕ) → IsListedFrom (list ++ n ∷ []) 0 entry → IsListedFrom list 0 entry ⊎ (entry ≡ n)
listed_cases list n entry h =
    elim (same_or_other h.0 (length list)) [
      | inl last ↦ inr (sym h.3 ∙ ap (λ i. get_or (list ++ n ∷ []) i 0) last ∙ get_or-append_seam list n [] 0)
      | inr other ↦
          let inside : h.0 < length list = omega (arith, other, h.2, length-append list (n ∷ [])) in
          inl (h.0, omega arith, inside, sym (get_or-append list (n ∷ []) 0 h.0 inside) ∙ h.3)
    ]

-- a decision, and what it forces
pub decided_more : (made trail new : List ℤ) (starts : List ℕ) (cs : List (List ℤ)) (l : ℤ) → holds made l ≡ true → Grown cs (trail ++ l ∷ []) new
    → AreDecided made trail starts →
    AreDecided made new (starts ++ length trail ∷ [])
decided_more made trail new starts cs l here grown decided at listed =
    let longer = grown_longer cs (trail ++ l ∷ []) new grown in
    let one = length-append trail (l ∷ []) in
    elim (listed_cases starts (length trail) at listed) [
      | inl earlier ↦
          let before = decided at earlier in (
            omega (arith, before.0, longer, one),
            ap (holds made) (grown_same cs (trail ++ l ∷ []) new at (omega (arith, before.0, one)) grown
                ∙ get_or-append trail (l ∷ []) (pos 0) at before.0) ∙ before.1,
          )
      | inr last ↦ (
        omega (arith, last, longer, one),
        ap (λ i. holds made (get_or new i (pos 0))) last
            ∙ ap (holds made) (grown_same cs (trail ++ l ∷ []) new (length trail) (omega (arith, one)) grown ∙ get_or-append_seam trail l [] (pos 0))
            ∙ here,
      )
    ]

-- ---- what a decision and its propagation add

pub record Decided (s next new : Search) (l : ℤ) : Type 0 where
  pub decision : next ≡ record s { trail = s.trail ++ l ∷ []; starts = s.starts ++ length s.trail ∷ [] }
  pub stay : IsSameBut next new
  pub sound : IsSound new
  pub grown : Grown next.clauses next.trail new.trail

pub grown_from : (s next new : Search) (l : ℤ) → Decided s next new l → Grown s.clauses (s.trail ++ l ∷ []) new.trail
grown_from s next new l step = subst (λ x. Grown x.clauses x.trail new.trail) step.decision step.grown

grown_made : (cs : List (List ℤ)) (old new : List ℤ) → Grown cs old new → (made : List ℤ) × (new ≡ old ++ made)
grown_made cs old new same = ([], sym (append-nil old))
grown_made cs old new (more made l before forced fresh not_false) =
    let rest = grown_made cs old made before in
    (rest.0 ++ l ∷ [], ap (λ xs. xs ++ l ∷ []) rest.1 ∙ append_assoc old rest.0 (l ∷ []))

pub beyond_decided : (s next new : Search) (l : ℤ) → Decided s next new l → IsBeyond s new
beyond_decided s next new l step =
    let rest = grown_made s.clauses (s.trail ++ l ∷ []) new.trail (grown_from s next new l step) in
    record {
      variables = step.stay.0 ∙ ap (λ x. x.variables) step.decision;
      clauses = step.stay.1 ∙ ap (λ x. x.clauses) step.decision;
      made = l ∷ rest.0;
      trail = rest.1 ∙ append_assoc s.trail (l ∷ []) rest.0;
      later = [];
      starts = step.stay.2 ∙ ap (λ x. x.starts) step.decision;
    }

pub further_beyond : (start s new : Search) → IsBeyond s new → IsFurther start s → IsFurther start new
further_beyond start s new step before =
    elim before [
      | inl is ↦ inr (subst (λ x. IsBeyond x new) is step)
      | inr h ↦
          inr
          (record {
            variables = step.variables ∙ h.variables;
            clauses = step.clauses ∙ h.clauses;
            made = h.made ++ step.made;
            trail = step.trail ∙ ap (λ xs. xs ++ step.made) h.trail ∙ append_assoc start.trail h.made step.made;
            later = h.later ++ length s.trail ∷ step.later;
            starts =
                step.starts ∙ ap (λ xs. xs ++ length s.trail ∷ step.later) h.starts
                ∙ append_assoc start.starts (length start.trail ∷ h.later) (length s.trail ∷ step.later);
          })
    ]

pub further_variables : (start s : Search) → IsFurther start s → s.variables ≡ start.variables
further_variables start s further =
    elim further [
      | inl is ↦ ap (λ x. x.variables) is
      | inr h ↦ h.variables
    ]

pub further_clauses : (start s : Search) → IsFurther start s → s.clauses ≡ start.clauses
further_clauses start s further =
    elim further [
      | inl is ↦ ap (λ x. x.clauses) is
      | inr h ↦ h.clauses
    ]

-- more decisions stand than at rest
pub further_rests : (start s : Search) → IsAtRest start → IsFurther start s → s.starts ≡ [] → s.head ≡ length s.trail
further_rests start s rest further none =
    elim further [
      | inl is ↦ subst (λ x. x.head ≡ length x.trail) (sym is) rest.1
      | inr h ↦ absurd (omega (arith, ap length (sym none ∙ h.starts), length-append start.starts (length start.trail ∷ h.later)))
    ]

-- ---- and taking back takes away

same_parts : (v w : ℕ) (cs ds : List (List ℤ)) (t u : List ℤ) (p q : List ℕ) (m n : ℕ) → v ≡ w → cs ≡ ds → t ≡ u → p ≡ q → m ≡ n →
    ◌≡◌ {A = Search} (record { variables = v; clauses = cs; trail = t; starts = p; head = m })
    (record { variables = w; clauses = ds; trail = u; starts = q; head = n })
same_parts v w cs ds t u p q m n variables clauses trail starts head = cc (variables, clauses, trail, starts, head)

same_search : (before old : Search) (start : ℕ) → IsBeyond before old → start ≡ length before.trail → before.head ≡ length before.trail →
    record old { trail = take start old.trail; starts = take (length before.starts) old.starts; head = start } ≡ before
same_search before old start h is propagated =
    let trail : take start old.trail ≡ before.trail = ap (λ n. take n old.trail) is ∙ ap (take (length before.trail)) h.trail
    ∙ take-append_seam before.trail h.made in
    let starts : take (length before.starts) old.starts ≡ before.starts =
    ap (take (length before.starts)) h.starts ∙ take-append_seam before.starts (length before.trail ∷ h.later) in
    let head : start ≡ before.head = is ∙ sym propagated in
    same_parts old.variables before.variables old.clauses before.clauses (take start old.trail) before.trail (take (length before.starts) old.starts)
    before.starts start before.head h.variables
    h.clauses trail starts head

pub returned : (level : ℕ) (before old new : Search) → length before.starts ≡ level → before.head ≡ length before.trail → IsBeyond before old →
    new ≡ record old { trail = take (start_in old.starts level) old.trail; starts = take level old.starts; head = start_in old.starts level } → new ≡ before
returned level before old new here propagated h is =
    let start : start_in old.starts level ≡ length before.trail =
    ap (start_in old.starts) (sym here) ∙ ap (λ xs. start_in xs (length before.starts)) h.starts
    ∙ get_or-append_seam before.starts (length before.trail) h.later 0 in
    is
    ∙ ap (λ n. record old { trail = take (start_in old.starts level) old.trail; starts = take n old.starts; head = start_in old.starts level }) (sym here)
    ∙ same_search before old (start_in old.starts level) h start propagated

pub higher : (level : ℕ) (before old : Search) → length before.starts ≡ level → IsBeyond before old → level < length old.starts
higher level before old here h = omega (arith, here, ap length h.starts, length-append before.starts (length before.trail ∷ h.later))

-- ---- one literal more is assumed

more_within : (c : List ℤ) (l : ℤ) → AreWithin (negations c) (negations (c ++ l ∷ []))
more_within c l = negations_within c (c ++ l ∷ []) (left_within c (l ∷ []))

falses_more : (trail c : List ℤ) (l : ℤ) → AreWithin (negations c) trail → holds trail (neg_ℤ l) ≡ true → AreWithin (negations (c ++ l ∷ [])) trail
falses_more trail c l before here k e =
    elim (held_pushed (negations c) (neg_ℤ l) k (sym (ap (λ xs. holds xs k) (negations-push c l)) ∙ e)) [
      | inl earlier ↦ before k earlier
      | inr is_l ↦ ap (holds trail) is_l ∙ here
    ]

assumes_false : (s : Search) (c : List ℤ) (l : ℤ) → holds s.trail (neg_ℤ l) ≡ true → Assumes s c → Assumes s (c ++ l ∷ [])
assumes_false s c l here h =
    record {
      falses = falses_more s.trail c l h.falses here;
      decided = wider (negations c) (negations (c ++ l ∷ [])) s.trail s.starts (more_within c l) h.decided;
    }

assumes_decided : (s next new : Search) (c : List ℤ) (l : ℤ) → Decided s next new (neg_ℤ l) → Assumes s c → Assumes new (c ++ l ∷ [])
assumes_decided s next new c l step h =
    let more = c ++ l ∷ [] in
    let grown = grown_from s next new (neg_ℤ l) step in
    let within = grown_within s.clauses (s.trail ++ neg_ℤ l ∷ []) new.trail grown in
    record {
      falses = falses_more new.trail c l (λ k e. within k (holds_before s.trail (neg_ℤ l) k (h.falses k e))) (within (neg_ℤ l) (holds_last s.trail (neg_ℤ l)));
      decided =
          subst (AreDecided (negations more) new.trail) (sym (step.stay.2 ∙ ap (λ x. x.starts) step.decision))
          (decided_more (negations more) s.trail new.trail s.starts s.clauses (neg_ℤ l) (negated-held more l (holds_last c l)) grown
          (wider (negations c) (negations more) s.trail s.starts (more_within c l) h.decided));
    }

pub assumes_nothing : (s : Search) → s.starts ≡ [] → Assumes s []
assumes_nothing s none = record { falses = λ k e. absurd (false≢true e); decided = λ at listed. absurd (omega (arith, listed.2, ap length none)) }

-- ---- the loop over the literals

-- the first literals of the list are assumed too
pub record Assuming (start s : Search) (list : List ℤ) (at : ℕ) : Type 0 where
  pub further : IsFurther start s
  pub propagated : s.head ≡ length s.trail
  pub settled : All (Settled s.trail) s.clauses
  pub sound : IsSound s
  pub assumed : (a : List ℤ) → Assumes start a → Assumes s (a ++ take at list)

pub assuming_starts : (s : Search) (list : List ℤ) → s.head ≡ length s.trail → IsSound s → All (Settled s.trail) s.clauses → Assuming s s list 0
assuming_starts s list propagated sound settled =
    record {
      further = inl refl;
      propagated = propagated;
      settled = settled;
      sound = sound;
      assumed = λ a h. subst (Assumes s) (sym (append-nil a)) h;
    }

one_taken : (a list : List ℤ) (at : ℕ) (l : ℤ) → at < length list → l ≡ get_or list at l → (a ++ take at list) ++ l ∷ [] ≡ a ++ take (at + 1) list
one_taken a list at l inside read =
    append_assoc a (take at list) (l ∷ []) ∙ ap (λ xs. a ++ xs) (sym (take_more list at l inside ∙ ap (λ x. take at list ++ x ∷ []) (sym read)))

pub assuming_passes : (start s : Search) (list : List ℤ) (at : ℕ) (l : ℤ) → at < length list → l ≡ get_or list at l → holds s.trail (neg_ℤ l) ≡ true
    → Assuming start s list at →
    Assuming start s list (at + 1)
assuming_passes start s list at l inside read here h =
    record {
      further = h.further;
      propagated = h.propagated;
      settled = h.settled;
      sound = h.sound;
      assumed = λ a assumes. subst (Assumes s) (one_taken a list at l inside read) (assumes_false s (a ++ take at list) l here (h.assumed a assumes));
    }

pub assuming_decides : (start s next new : Search) (list : List ℤ) (at : ℕ) (l : ℤ) → at < length list → l ≡ get_or list at l
    → Decided s next new (neg_ℤ l) → IsEnd next new None →
    Assuming start s list at → Assuming start new list (at + 1)
assuming_decides start s next new list at l inside read step ended h =
    record {
      further = further_beyond start s new (beyond_decided s next new (neg_ℤ l) step) h.further;
      propagated = ended.0;
      settled = ended.1;
      sound = step.sound;
      assumed = λ a assumes. subst (Assumes new) (one_taken a list at l inside read) (assumes_decided s next new (a ++ take at list) l step
          (h.assumed a assumes));
    }

taken_within : (a list : List ℤ) (at : ℕ) → AreWithin (a ++ take at list) (a ++ list)
taken_within a list at = both_within a (take at list) (a ++ list) (left_within a list) (λ k e. right_within a list k (held_prefix at list k e))

-- an empty clause that is reached from the first literals
reached : (start : Search) (a list : List ℤ) (at : ℕ) → All (IsClauseOver start.variables) start.clauses → IsClauseOver start.variables (a ++ list) →
    Reaches start.clauses (negations (a ++ take at list)) → follows start.clauses (a ++ list) ≡ true
reached start a list at all over reaches =
    reaches-follows start.clauses (a ++ list) (over-nonzero start.variables start.clauses all) over.clause
    (Reaches-more start.clauses (negations (a ++ take at list)) (negations (a ++ list)) (negations_within (a ++ take at list) (a ++ list)
    (taken_within a list at)) reaches)

assuming_conflict : (start s next new : Search) (list : List ℤ) (at : ℕ) (l : ℤ) (clause : ℕ) → All (IsClauseOver start.variables) start.clauses
    → at < length list → l ≡ get_or list at l →
    Decided s next new (neg_ℤ l) → IsEnd next new (Some clause) → Assuming start s list at → TellsBeside start list true
assuming_conflict start s next new list at l clause all inside read step ended h a assumes over =
    let clauses : new.clauses ≡ start.clauses = further_clauses start new (further_beyond start s new (beyond_decided s next new (neg_ℤ l) step) h.further) in
    let made = a ++ take (at + 1) list in
    let here : Assumes new made =
    subst (Assumes new) (one_taken a list at l inside read) (assumes_decided s next new (a ++ take at list) l step (h.assumed a assumes)) in
    sym
    (reached start a list (at + 1) all over
    (subst (λ cs. Reaches cs (negations made)) clauses
    (chain_conflict new.clauses new.trail new.starts (negations made) (get_or new.clauses clause []) step.sound.chain here.decided
    (contains_at new.clauses clause ended.1) ended.2)))

pub assuming_clash : (start s : Search) (list : List ℤ) (at : ℕ) (l : ℤ) → All (IsClauseOver start.variables) start.clauses → holds list l ≡ true
    → holds s.trail l ≡ true →
    Assuming start s list at → TellsBeside start list true
assuming_clash start s list at l all held here h a assumes over =
    let some = a ++ take at list in
    let decided = wider (negations some) (negations (a ++ list)) s.trail s.starts (negations_within some (a ++ list) (taken_within a list at))
    (h.assumed a assumes).decided in
    sym
    (reaches-follows start.clauses (a ++ list) (over-nonzero start.variables start.clauses all) over.clause
    (subst (λ cs. Reaches cs (negations (a ++ list))) (further_clauses start s h.further)
    (chain_clash s.clauses s.trail s.starts (negations (a ++ list)) l h.sound.chain decided (negations-consistent (a ++ list) over.clause) here
    (negated-held (a ++ list) l (right_within a list l held)))))

pub assuming_also : (start s : Search) (list : List ℤ) (at : ℕ) → length list ≤ at → Assuming start s list at → AssumesAlso start s list
assuming_also start s list at end h a assumes = subst (λ xs. Assumes s (a ++ xs)) (take_all at list end) (h.assumed a assumes)

pub assuming_open : (start s : Search) (list : List ℤ) (at : ℕ) → length list ≤ at → Assuming start s list at → TellsBeside start list false
assuming_open start s list at end h a assumes over =
    sym
    (settled-follows start.clauses (a ++ list) s.trail h.sound.consistent (subst (All (Settled s.trail)) (further_clauses start s h.further) h.settled)
    (assuming_also start s list at end h a assumes).falses)

-- ---- as the loop meets them

pub assuming_some : (start s next new : Search) (list : List ℤ) (at : ℕ) (l n : ℤ) (end : Option ℕ) → is_some end ≡ true
    → All (IsClauseOver start.variables) start.clauses →
    at < length list → l ≡ get_or list at l → n ≡ neg_ℤ l → Decided s next new n → IsEnd next new end → Assuming start s list at → TellsBeside start list true
assuming_some start s next new list at l n None some all inside read negation step ended h = absurd (false≢true some)
assuming_some start s next new list at l n (Some clause) some all inside read negation step ended h =
    assuming_conflict start s next new list at l clause all inside read (subst (Decided s next new) negation step) ended h

pub assuming_none : (start s next new : Search) (list : List ℤ) (at : ℕ) (l n : ℤ) (end : Option ℕ) → is_some end ≡ false → at < length list
    → l ≡ get_or list at l → n ≡ neg_ℤ l →
    Decided s next new n → IsEnd next new end → Assuming start s list at → Assuming start new list (at + 1)
assuming_none start s next new list at l n None none inside read negation step ended h =
    assuming_decides start s next new list at l inside read (subst (Decided s next new) negation step) ended h
assuming_none start s next new list at l n (Some clause) none inside read negation step ended h = absurd (true≢false none)

-- where the answer is no, the state shows it
pub rests_open : (s : Search) (list : List ℤ) → IsSound s → (s.head ≡ length s.trail → All (Settled s.trail) s.clauses) → s.head ≡ length s.trail
    → Assumes s list → Rests s list
rests_open s list sound settled propagated h = record { consistent = sound.consistent; settled = settled propagated; falses = h.falses }
