-- Decisions one after another.
use Rattle.std.proofs.Common.{◌≡◌, ℕ, zero, suc, ◌+◌, ◌<◌, List, [], ◌∷◌, ◌++◌, length, get_or, true, false, refl, sym, ap, ◌∙◌, inl, inr, ◌⊎◌, subst}
use Rattle.std.proofs.Common.{arith, length-append}
use Rattle.std.specs.Prelude.{ℤ, pos, negsuc, neg_ℤ, Bool, not, All, Option, Some, None, is_some, MatchOption, Result, Ok, Err, IfOk}
use Rattle.std.specs.List.{list_all}
use Rattle.std.specs.Ordering.{int_eq}
use Rattle.std.proofs.Math.IntN.{neg_ℤ-neg_ℤ}
use Rattle.std.proofs.lemmas.Bool.{cases_Bool, or_cases, or_left, or_right, and_from, false≢true, true≢false}
use Rattle.std.proofs.lemmas.List.Elements.{All-cons}
use Rattle.vg_cnf.specs.Clauses.{holds, is_clause, IsOver, IsClauseOver, makes_all_true, IsModel}
use Rattle.vg_cnf.specs.Orders.{IsConsistent, Settled, negations, Reaches}
use Rattle.vg_cnf.proofs.Steps.{clash, same_literal, same_test}
use Rattle.vg_cnf.proofs.Orders.{reaches-follows}
use Rattle.vg_units.specs.Propagating.{AreWithin}
use Rattle.vg_units.specs.Searching.{Search, IsAtRest, IsSound, IsEnd}
use Rattle.vg_units.proofs.Visiting.{grown_within, grown_longer, contains_at, holds_last, holds_before}
use Rattle.vg_units.proofs.Reaching.{AreDecided, chain_conflict, over-nonzero}
use Rattle.vg_units.proofs.Assuming.{Decided, grown_from, holds-negations, negated-held, decided_more}
use Rattle.vg_sat.specs.Walks.{AreValues, Walked}
use Rattle.vg_sat.proofs.Choosing.{AreAssignedTo, assigned_more, all_true}
use Rattle.vg_sat.specs.Choices.{IsUndecided, AreAssigned}
use Rattle.vg_sat.specs.Learned.{IsLearnable}

pub walk_starts : (s : Search) → IsAtRest s → IsSound s → All (Settled s.trail) s.clauses → Walked s []
walk_starts s rest sound settled =
    record {
      propagated = rest.1;
      settled = settled;
      sound = sound;
      over = λ k d below. absurd (omega arith);
      falses = λ k e. absurd (false≢true e);
      decided = λ at listed. absurd (omega (arith, listed.2, ap length rest.0));
    }

over_negated : (n : ℕ) (l : ℤ) → IsOver n l → IsOver n (neg_ℤ l)
over_negated n (pos zero) over = absurd (omega (arith, over.0))
over_negated n (pos (suc m)) over = over
over_negated n (negsuc m) over = over

-- a literal more
within_cons : (made few : List ℤ) (l : ℤ) → holds made l ≡ true → AreWithin few made → AreWithin (l ∷ few) made
within_cons made few l here within k e =
    elim (or_cases (int_eq k l) (holds few k) e) [
      | inl is_l ↦ ap (holds made) (same_literal k l is_l) ∙ here
      | inr later ↦ within k later
    ]

more_decided : (trail more : List ℤ) (starts : List ℕ) (l : ℤ) → AreDecided more trail starts → AreDecided (l ∷ more) trail starts
more_decided trail more starts l decided at listed =
    let before = decided at listed in
    (before.0, or_right (int_eq (get_or trail at (pos 0)) l) (holds more (get_or trail at (pos 0))) before.1)

decided_from : (s next new : Search) (l : ℤ) (clause : List ℤ) → Decided s next new l → AreDecided (negations clause) s.trail s.starts →
    AreDecided (negations (neg_ℤ l ∷ clause)) new.trail new.starts
decided_from s next new l clause step decided =
    subst (AreDecided (negations (neg_ℤ l ∷ clause)) new.trail) (sym (step.stay.2 ∙ ap (λ x. x.starts) step.decision))
    (decided_more (negations (neg_ℤ l ∷ clause)) s.trail new.trail s.starts s.clauses l
    (or_left (int_eq l (neg_ℤ (neg_ℤ l))) (holds (negations clause) l) (same_test l (neg_ℤ (neg_ℤ l)) (sym (neg_ℤ-neg_ℤ l)))) (grown_from s next new l step)
    (more_decided s.trail (negations clause) s.starts (neg_ℤ (neg_ℤ l)) decided))

pub same_variables : (s next new : Search) (l : ℤ) → Decided s next new l → new.variables ≡ s.variables
same_variables s next new l step = step.stay.0 ∙ ap (λ x. x.variables) step.decision

pub same_clauses : (s next new : Search) (l : ℤ) → Decided s next new l → new.clauses ≡ s.clauses
same_clauses s next new l step = step.stay.1 ∙ ap (λ x. x.clauses) step.decision

pub walk_on : (s next new : Search) (clause : List ℤ) (l : ℤ) → IsOver s.variables l → Decided s next new l → new.head ≡ length new.trail
    → All (Settled new.trail) new.clauses →
    Walked s clause → Walked new (neg_ℤ l ∷ clause)
walk_on s next new clause l over step propagated settled h =
    let within = grown_within s.clauses (s.trail ++ l ∷ []) new.trail (grown_from s next new l step) in
    record {
      propagated = propagated;
      settled = settled;
      sound = step.sound;
      over =
          subst (λ n. All (IsOver n) (neg_ℤ l ∷ clause)) (sym (same_variables s next new l step))
          (All-cons (IsOver s.variables) (neg_ℤ l) clause (over_negated s.variables l over) h.over);
      falses =
          within_cons new.trail (negations clause) (neg_ℤ (neg_ℤ l)) (ap (holds new.trail) (neg_ℤ-neg_ℤ l) ∙ within l (holds_last s.trail l))
          (λ k e. within k (holds_before s.trail l k (h.falses k e)));
      decided = decided_from s next new l clause step h.decided;
    }

-- no literal stands beside its negation where all are false
false_clause : (trail c : List ℤ) → IsConsistent trail → AreWithin (negations c) trail → is_clause c ≡ true
false_clause trail c consistent falses = all_apart c (λ k held. held)
  where
    apart : (k : ℤ) → holds c k ≡ true → not (holds c (neg_ℤ k)) ≡ true
    apart k held =
        elim (cases_Bool (holds c (neg_ℤ k))) [
          | inl both ↦
              clash (holds trail k) (falses k (holds-negations c k ∙ both))
              (ap (holds trail) (sym (neg_ℤ-neg_ℤ k)) ∙ consistent (neg_ℤ k) (falses (neg_ℤ k) (negated-held c k held)))
          | inr alone ↦ ap not alone
        ]

    all_apart : (some : List ℤ) → ((k : ℤ) → holds some k ≡ true → holds c k ≡ true) → list_all (λ l. not (holds c (neg_ℤ l))) some ≡ true
    all_apart [] within = refl
    all_apart (x ∷ some) within =
        and_from (not (holds c (neg_ℤ x))) (list_all (λ l. not (holds c (neg_ℤ l))) some)
        (apart x (within x (or_left (int_eq x x) (holds some x) (same_test x x refl))))
        (all_apart some (λ k e. within k (or_right (int_eq k x) (holds some k) e)))

conflict_reaches : (s next new : Search) (clause : List ℤ) (l : ℤ) (end : Option ℕ) → is_some end ≡ true → Decided s next new l → IsEnd next new end
    → Walked s clause →
    Reaches s.clauses (negations (neg_ℤ l ∷ clause))
conflict_reaches s next new clause l None some step ended h = absurd (false≢true some)
conflict_reaches s next new clause l (Some at) some step ended h =
    subst (λ cs. Reaches cs (negations (neg_ℤ l ∷ clause))) (same_clauses s next new l step)
    (chain_conflict new.clauses new.trail new.starts (negations (neg_ℤ l ∷ clause)) (get_or new.clauses at []) step.sound.chain
    (decided_from s next new l clause step h.decided)
    (contains_at new.clauses at ended.1) ended.2)

-- a clause that became false gives one to learn
walk_conflict : (s next new : Search) (clause : List ℤ) (l : ℤ) (end : Option ℕ) → All (IsClauseOver s.variables) s.clauses → IsUndecided s l
    → is_some end ≡ true → Decided s next new l →
    IsEnd next new end → Walked s clause → IsLearnable s.variables s.clauses (neg_ℤ l ∷ clause)
walk_conflict s next new clause l end all undecided some step ended h =
    let within = grown_within s.clauses (s.trail ++ l ∷ []) new.trail (grown_from s next new l step) in
    let is_one : is_clause (neg_ℤ l ∷ clause) ≡ true =
    false_clause new.trail (neg_ℤ l ∷ clause) step.sound.consistent
    (within_cons new.trail (negations clause) (neg_ℤ (neg_ℤ l)) (ap (holds new.trail) (neg_ℤ-neg_ℤ l) ∙ within l (holds_last s.trail l))
    (λ k e. within k (holds_before s.trail l k (h.falses k e)))) in
    record {
      over = record { clause = is_one; over = All-cons (IsOver s.variables) (neg_ℤ l) clause (over_negated s.variables l undecided.over) h.over };
      some = omega arith;
      follows_it = reaches-follows s.clauses (neg_ℤ l ∷ clause) (over-nonzero s.variables s.clauses all) is_one
          (conflict_reaches s next new clause l end some step ended h);
      first =
          record {
            made = s.trail;
            consistent = h.sound.consistent;
            settled = h.settled;
            others =
                λ k held other.
                elim (or_cases (int_eq k (neg_ℤ l)) (holds clause k) held) [
                  | inl is_first ↦ clash (int_eq k (neg_ℤ l)) is_first other
                  | inr later ↦ h.falses (neg_ℤ k) (negated-held clause k later)
                ];
            unmade = undecided.not_false;
          };
    }

-- where a decision led: to a state with no false clause, or to a clause to learn
pub walk_step : (s next new : Search) (clause : List ℤ) (l : ℤ) (end : Option ℕ) → All (IsClauseOver s.variables) s.clauses → IsUndecided s l
    → Decided s next new l → IsEnd next new end →
    Walked s clause → MatchOption end (Walked new (neg_ℤ l ∷ clause)) (λ at. IsLearnable s.variables s.clauses (neg_ℤ l ∷ clause))
walk_step s next new clause l None all undecided step ended h = walk_on s next new clause l undecided.over step ended.0 ended.1 h
walk_step s next new clause l (Some at) all undecided step ended h = walk_conflict s next new clause l (Some at) all undecided refl step ended h

pub walk_led : {E : Type 0} (result : Result (Option ℕ) E) (s next new : Search) (clause items : List ℤ) (l : ℤ)
    → All (IsClauseOver s.variables) s.clauses → IsUndecided s l →
    items ≡ neg_ℤ l ∷ clause → Decided s next new l → IfOk result (IsEnd next new) → Walked s clause →
    IfOk result (λ end. MatchOption end (Walked new items) (λ at. IsLearnable s.variables s.clauses items))
walk_led (Ok end) s next new clause items l all undecided is step ended h =
    subst (λ xs. MatchOption end (Walked new xs) (λ at. IsLearnable s.variables s.clauses xs)) (sym is)
    (walk_step s next new clause l end all undecided step ended h)
walk_led (Err e) s next new clause items l all undecided is step ended h = tt

pub led_on : (end : Option ℕ) (P : Type 0) (Q : ℕ → Type 0) → is_some end ≡ false → MatchOption end P Q → P
led_on None P Q none h = h
led_on (Some at) P Q none h = absurd (true≢false none)

pub led_here : (end : Option ℕ) (P : Type 0) (Q : Type 0) → is_some end ≡ true → MatchOption end P (λ at. Q) → Q
led_here None P Q some h = absurd (false≢true some)
led_here (Some at) P Q some h = h

pub led_so : (end : Option ℕ) (P more : Type 0) (Q other : Type 0) → is_some end ≡ true → (Q → other) → MatchOption end P (λ at. Q)
    → MatchOption end more (λ at. other)
led_so None P more Q other some so h = absurd (false≢true some)
led_so (Some at) P more Q other some so h = so h

-- a walk that goes on
pub record Going (start s : Search) (items : List ℤ) : Type 0 where
  pub variables : s.variables ≡ start.variables
  pub clauses : s.clauses ≡ start.clauses
  pub walked : Walked s items

pub going_starts : (s : Search) (items : List ℤ) → Walked s items → Going s s items
going_starts s items walked = record { variables = refl; clauses = refl; walked = walked }

pub going_at : (start s t : Search) (items more : List ℤ) → s ≡ t → items ≡ more → Going start t more → Going start s items
going_at start s t items more is_t is_more h = subst (λ x. Going start x items) (sym is_t) (subst (Going start t) (sym is_more) h)

pub going_on : (start s new : Search) (items more : List ℤ) (end : Option ℕ) (Q : ℕ → Type 0) → is_some end ≡ false → (new.variables ≡ s.variables)
    × (new.clauses ≡ s.clauses) →
    MatchOption end (Walked new more) Q → Going start s items → Going start new more
going_on start s new items more end Q none alike led h =
    record { variables = alike.0 ∙ h.variables; clauses = alike.1 ∙ h.clauses; walked = led_on end (Walked new more) Q none led }

pub going_learnable : (start s : Search) (items clause : List ℤ) → Going start s items → IsLearnable s.variables s.clauses clause
    → IsLearnable start.variables start.clauses clause
going_learnable start s items clause h learnable = subst (λ n. IsLearnable n start.clauses clause) h.variables
    (subst (λ cs. IsLearnable s.variables cs clause) h.clauses learnable)

pub learnable_there : (s new : Search) (clause : List ℤ) → (new.variables ≡ s.variables) × (new.clauses ≡ s.clauses)
    → IsLearnable s.variables s.clauses clause → IsLearnable new.variables new.clauses clause
learnable_there s new clause alike learnable =
    subst (λ n. IsLearnable n new.clauses clause) (sym alike.0) (subst (λ cs. IsLearnable s.variables cs clause) (sym alike.1) learnable)

pub going_ends : (start s new : Search) (items more : List ℤ) (end : Option ℕ) (P rest : Type 0) → is_some end ≡ true
    → MatchOption end P (λ at. IsLearnable s.variables s.clauses more) →
    0 < length new.starts → Going start s items → MatchOption end rest (λ at. IsLearnable start.variables start.clauses more × (0 < length new.starts))
going_ends start s new items more end P rest some led level h =
    led_so end P rest (IsLearnable s.variables s.clauses more) (IsLearnable start.variables start.clauses more × (0 < length new.starts)) some
    (λ learnable. (going_learnable start s items more h learnable, level)) led

-- what was true stays true, and the decision is
pub step_keeps : (s next new : Search) (l : ℤ) → Decided s next new l → AreWithin s.trail new.trail
step_keeps s next new l step k e = grown_within s.clauses (s.trail ++ l ∷ []) new.trail (grown_from s next new l step) k (holds_before s.trail l k e)

pub step_decides : (s next new : Search) (l : ℤ) → Decided s next new l → holds new.trail l ≡ true
step_decides s next new l step = grown_within s.clauses (s.trail ++ l ∷ []) new.trail (grown_from s next new l step) l (holds_last s.trail l)

pub step_level : (s next new : Search) (l : ℤ) → Decided s next new l → 0 < length new.starts
step_level s next new l step = omega (arith, ap length (step.stay.2 ∙ ap (λ x. x.starts) step.decision), length-append s.starts (length s.trail ∷ []))

-- the trail grows with each decision
pub walk_longer : (s next new : Search) (l : ℤ) → Decided s next new l → length s.trail < length new.trail
walk_longer s next new l step =
    omega (arith, grown_longer s.clauses (s.trail ++ l ∷ []) new.trail (grown_from s next new l step), length-append s.trail (l ∷ []))

-- ---- variables that are true or false

pub assigned_decided : (trail more : List ℤ) (l : ℤ) (n : ℕ) → l ≡ neg_ℤ (pos (n + 1)) → AreWithin trail more → holds more l ≡ true
    → AreAssignedTo trail n → AreAssignedTo more (n + 1)
assigned_decided trail more l n is within here before =
    assigned_more more n (inr (ap (holds more) (sym is) ∙ here))
    (λ v some inside.
    elim (before v some inside) [
      | inl t ↦ inl (within (pos v) t)
      | inr f ↦ inr (within (neg_ℤ (pos v)) f)
    ])

pub assigned_found : (trail : List ℤ) (l : ℤ) (n : ℕ) → l ≡ neg_ℤ (pos (n + 1)) → (holds trail l ≡ true) ⊎ (holds trail (neg_ℤ l) ≡ true)
    → AreAssignedTo trail n → AreAssignedTo trail (n + 1)
assigned_found trail l n is found before =
    assigned_more trail n
    (elim found [
      | inl t ↦ inr (ap (holds trail) (sym is) ∙ t)
      | inr f ↦ inl (ap (holds trail) (sym (ap neg_ℤ is ∙ neg_ℤ-neg_ℤ (pos (n + 1)))) ∙ f)
    ])
    before

-- all variables decided, and no clause false
pub walk_model : (start s : Search) (clause : List ℤ) (values : List Bool) → s.variables ≡ start.variables → s.clauses ≡ start.clauses
    → All (IsClauseOver start.variables) start.clauses →
    AreAssigned s → AreValues s values → Walked s clause → IsModel values (record { variables = start.variables; clauses = start.clauses })
walk_model start s clause values variables clauses all assigned are h =
    record {
      each_variable = are.each ∙ variables;
      each_clause =
          subst (λ cs. makes_all_true values cs ≡ true) clauses
          (all_true s values s.clauses h.sound.consistent assigned are
          (subst (λ m. All (IsClauseOver m) s.clauses) (sym variables) (subst (All (IsClauseOver start.variables)) (sym clauses) all)) h.settled);
    }
