-- Where reading stops, the grammar needs a token or opens a construct that has no room.
use Rattle.std.proofs.Common.{◌≡◌, ◌∙◌, ◌≤◌, ◌+◌, ◌-◌, ◌⊎◌, inl, inr, ℕ, zero, suc, Bool, true, List, length, slice_get, Option, Some, None, Result}
use Rattle.std.proofs.Common.{Ok, Err, refl, sym, ap, subst, arith}
use Rattle.std.specs.Prelude.{◌&&◌}
use Rattle.std.proofs.lemmas.Bool.{and_parts}
use Rattle.vg_forms.specs.Forms.{Form, Plain, Place, One, Unless, Both, Either, Chain, Inner, Made, Growth}
use Rattle.vg_forms.specs.Places.{State, place_at, passes, tested}
use Rattle.vg_forms.specs.Spelling.{Spelled, start}
use Rattle.vg_forms.specs.Guided.{guided_with, guided_inner}
use Rattle.vg_forms.specs.Guided.{GuidedTurnsTo, comes_guided, lacks_guided, opens_guided, LacksGuided, OpensGuided}
use Rattle.vg_forms.specs.Reading.{Refusal, Wrong, Deep, Reads, ◌>>=◌, taken, grown, turn, turns, read_with, read_inner, read}
use Rattle.vg_forms.proofs.Checks.{eats}
use Rattle.vg_forms.proofs.Onward.{bound, ok_at, same_state, same_value, either_side, Gains, gains, further}
use Rattle.vg_forms.proofs.Rooms.{inner_gains}
use Rattle.vg_forms.proofs.Checks.{tidy}
use Rattle.vg_forms.proofs.Agreement.{sound, complete}
use Rattle.vg_forms.proofs.Units.{inner_sound, inner_complete}
use Rattle.vg_forms.proofs.Chains.{some_next}
use Rattle.vg_forms.specs.declared.token.Token.{Token}
use Rattle.vg_forms.proofs.Checks.{Law}

place_of : Refusal → ℕ
place_of (Wrong i) = i
place_of (Deep i) = i

wrong_place : {i j : ℕ} → Wrong i ≡ Wrong j → i ≡ j
wrong_place e = cc

deep_place : {i j : ℕ} → Deep i ≡ Deep j → i ≡ j
deep_place e = cc

module _ {K N G : Type 0} (law : Law K N G) where
  -- which part of a reading stops
  bound_stops : {A B : Type 0} (r : Result (A × State G) Refusal) (k : A × State G → Result (B × State G) Refusal) (e : Refusal) → (r >>= k) ≡ Err e
      → (r ≡ Err e) ⊎ ((p : A × State G) × (r ≡ Ok p) × (k p ≡ Err e))
  bound_stops (Ok p) k e is = inr (p, refl, is)
  bound_stops (Err f) k e is = inl (cc)

  abbrev err_at : {A : Type 0} → Refusal → Result (A × State G) Refusal
  err_at e = Err e

  refusal_or : {A : Type 0} → Refusal → Result (A × State G) Refusal → Refusal
  refusal_or d (Ok p) = d
  refusal_or d (Err e) = e

  same_refusal : {A : Type 0} (d e : Refusal) (r : Result (A × State G) Refusal) → r ≡ Err d → r ≡ Err e → d ≡ e
  same_refusal d e r one two = cc

  taken_stops : {A : Type 0} (o : Option A) (s : State G) (e : Refusal) → taken o s ≡ Err e → (e ≡ Wrong s.at) × (o ≡ None)
  taken_stops None s e is = (sym (same_refusal (Wrong s.at) e (taken None s) refl is), refl)
  taken_stops (Some a) s e is = absurd (cc)

  module _ (toks : List (Token K)) where
    turns_stop : {A : Type 0} (left : ℕ) (test : Token K → Bool) (more : Reads G (ℕ → A → Growth G A)) (says : Spelled G (ℕ → A → Growth G A))
        (stops : State G → Type 0) (e : Refusal)
        → ((s : State G) (g : ℕ → A → Growth G A) (t : State G) → more s ≡ Ok (g, t) → says s g t) → ((s : State G) → more s
        ≡ Err e → stops s)
        → (at : ℕ) (a : A) (s : State G) → turns toks left test more at a s ≡ Err e → (n : ℕ) × GuidedTurnsTo toks n test says stops at a s
    turns_stop zero test more says stops e h k at a s is = absurd (cc)
    turns_stop (suc left) test more says stops e h k at a s is =
        either_side (passes test (slice_get toks s.at))
        (λ so is. elim (bound_stops (turn more at a s) (λ q. turns toks left test more at q.0 q.1) e is) [
          | inl first ↦ elim (bound_stops (more s) (λ q. Ok (grown (q.0 at a q.1.tree) q.1)) e first) [
            | inl here ↦ (0, (so, k s here))
            | inr done ↦ absurd (cc done.2)
          ]
          | inr later ↦
              let one = bound (more s) (λ q. Ok (grown (q.0 at a q.1.tree) q.1)) later.1 in
              let g = one.0.0 in
              let u = one.0.1 in
              let value : (g at a u.tree).0 ≡ later.0.0 = same_value law one.2 in
              let state : record u { tree = (g at a u.tree).1 } ≡ later.0.1 = same_state law one.2 in
              let rest : turns toks left test more at (g at a u.tree).0 (record u { tree = (g at a u.tree).1 }) ≡ Err e =
              ap (λ (v : State G). turns toks left test more at (g at a u.tree).0 v) state ∙ ap
              (λ c. turns toks left test more at c later.0.1) value ∙ later.2 in
              let more_turns = turns_stop left test more says stops e h k at (g at a u.tree).0 (record u { tree = (g at a u.tree).1 }) rest in
              (suc more_turns.0, (so, g, u, h s g u one.1, more_turns.1))
        ])
        (λ unless is. absurd (cc is)) is

    stops_with : (inner : N → Reads G ℕ) (says : N → Spelled G ℕ) (lacks : State G → Type 0) (deeper : N → State G → Type 0) (e : Refusal)
        → Gains law toks inner
        → ((n : N) (s : State G) (a : ℕ) (t : State G) → inner n s ≡ Ok (a, t) → says n s a t)
        → ((s : State G) → e ≡ Wrong s.at → lacks s) → ((n : N) (s : State G) → inner n s ≡ Err e → deeper n s)
        → {A : Type 0} (f : Form K N G A) → tidy f ≡ true → (s : State G) → read_with toks inner f s ≡ Err e
        → comes_guided toks says lacks deeper f s
    stops_with inner says lacks deeper e gain ok one more (Plain a) neat s is = absurd (cc)
    stops_with inner says lacks deeper e gain ok one more Place neat s is = absurd (cc)
    stops_with inner says lacks deeper e gain ok one more (One test) neat s is = let stop = taken_stops (tested test (slice_get toks s.at)) s e is in
        (one s stop.0, stop.1)
    stops_with inner says lacks deeper e gain ok one more (Unless test) neat s is =
        either_side (passes test (slice_get toks s.at)) (λ so is. (one s (sym (same_refusal (Wrong s.at) e (err_at (Wrong s.at)) refl is)), so))
        (λ unless is. absurd (cc)) is
    stops_with inner says lacks deeper e gain ok one more (Both f x) neat s is =
        let parts = and_parts (tidy f) (tidy x) neat in
        elim (bound_stops (read_with toks inner f s) (λ p. read_with toks inner x p.1 >>= λ q. Ok (p.0 q.0, q.1)) e is) [
          | inl first ↦ inl (stops_with inner says lacks deeper e gain ok one more f parts.0 s first)
          | inr later ↦ elim (bound_stops (read_with toks inner x later.0.1) (λ q. Ok (later.0.0 q.0, q.1)) e later.2) [
            | inl second ↦ inr (
              later.0.0,
              later.0.1,
              sound law toks inner says gain ok f parts.0 s later.0.0 later.0.1 later.1,
              stops_with inner says lacks deeper e gain ok one more x parts.1 later.0.1 second,
            )
            | inr done ↦ absurd (cc done.2)
          ]
        ]
    stops_with inner says lacks deeper e gain ok one more (Either test x y) neat s is =
        let parts = and_parts (tidy x) (tidy y) neat in
        either_side (passes test (slice_get toks s.at)) (λ so is. inl (so, stops_with inner says lacks deeper e gain ok one more x parts.0 s is))
        (λ unless is. inr (unless, stops_with inner says lacks deeper e gain ok one more y parts.1 s is)) is
    stops_with inner says lacks deeper e gain ok one more (Chain test x rest) neat s is =
        let all = and_parts (tidy x && eats rest) (tidy rest) neat in
        let front = and_parts (tidy x) (eats rest) all.0 in
        elim (bound_stops (read_with toks inner x s) (λ p. turns toks (length toks - p.1.at) test (read_with toks inner rest) (place_at toks s.at) p.0
        p.1) e is) [
          | inl first ↦ inl (stops_with inner says lacks deeper e gain ok one more x front.0 s first)
          | inr later ↦
              let turn_at = turns_stop (length toks - later.0.1.at) test (read_with toks inner rest) (guided_with toks says rest)
              (comes_guided toks says lacks deeper rest) e
              (λ v g w h. sound law toks inner says gain ok rest all.1 v g w h) (λ v h. stops_with inner says lacks deeper e gain ok one more rest all.1 v
              h) (place_at toks s.at) later.0.0 later.0.1 later.2 in
              inr (later.0.0, later.0.1, turn_at.0, sound law toks inner says gain ok x front.0 s later.0.0 later.0.1 later.1, turn_at.1)
        ]
    stops_with inner says lacks deeper e gain ok one more (Inner n) neat s is = more n s is
    stops_with inner says lacks deeper e gain ok one more (Made f) neat s is =
        elim (bound_stops (read_with toks inner f s) (λ p. Ok (grown (p.0 p.1.tree) p.1)) e is) [
          | inl first ↦ stops_with inner says lacks deeper e gain ok one more f neat s first
          | inr done ↦ absurd (cc done.2)
        ]

    lacks_at : (i : ℕ) (s : State G) → Wrong i ≡ Wrong s.at → s.at ≡ i
    lacks_at i s e = sym (wrong_place e)

    never_wrong : (i : ℕ) (s : State G) → Deep i ≡ Wrong s.at → ⊥
    never_wrong i s e = cc

    inner_lacks : (room i : ℕ) (n : N) (s : State G) → read_inner law.grammar toks room n s ≡ Err (Wrong i) → lacks_guided law.grammar toks i room n s
    inner_lacks zero i n s is = either_side (passes (law.grammar.begins n) (slice_get toks s.at)) (λ so is. absurd (cc is)) (λ unless is.
        (cc is, unless)) is
    inner_lacks (suc room) i n s is =
        either_side (passes (law.grammar.begins n) (slice_get toks s.at))
        (λ so is. inr (
          so,
          stops_with (read_inner law.grammar toks room) (guided_inner law.grammar toks room) (λ u. u.at ≡ i) (lacks_guided law.grammar toks i room)
              (Wrong i) (inner_gains law toks room)
              (inner_sound law toks room) (lacks_at i)
              (λ m u h. inner_lacks room i m u h) (law.grammar.form n) (law.form_tidy n) s is,
        ))
        (λ unless is. inl (cc is, unless)) is

    inner_opens : (room i : ℕ) (n : N) (s : State G) → read_inner law.grammar toks room n s ≡ Err (Deep i) → opens_guided law.grammar toks i room n s
    inner_opens zero i n s is = either_side (passes (law.grammar.begins n) (slice_get toks s.at)) (λ so is. (cc is, so)) (λ unless is. absurd (cc is)) is
    inner_opens (suc room) i n s is =
        either_side (passes (law.grammar.begins n) (slice_get toks s.at))
        (λ so is. (
          so,
          stops_with (read_inner law.grammar toks room) (guided_inner law.grammar toks room) (λ u. ⊥) (opens_guided law.grammar toks i room)
              (Deep i) (inner_gains law toks room)
              (inner_sound law toks room) (never_wrong i)
              (λ m u h. inner_opens room i m u h) (law.grammar.form n) (law.form_tidy n) s is,
        ))
        (λ unless is. absurd (cc is)) is

    pub unit_lacks : (room i : ℕ) → read law.grammar toks room law.grammar.unit (start law.grammar) ≡ Err (Wrong i)
        → LacksGuided law.grammar room toks i
    unit_lacks room i is =
        stops_with (read_inner law.grammar toks room) (guided_inner law.grammar toks room) (λ u. u.at ≡ i) (lacks_guided law.grammar toks i room)
        (Wrong i) (inner_gains law toks room)
        (inner_sound law toks room) (lacks_at i) (inner_lacks room i) law.grammar.unit law.unit_tidy (start law.grammar) is

    pub unit_opens : (room i : ℕ) → read law.grammar toks room law.grammar.unit (start law.grammar) ≡ Err (Deep i)
        → OpensGuided law.grammar room toks i
    unit_opens room i is =
        stops_with (read_inner law.grammar toks room) (guided_inner law.grammar toks room) (λ u. ⊥) (opens_guided law.grammar toks i room) (Deep i)
        (inner_gains law toks room)
        (inner_sound law toks room) (never_wrong i) (inner_opens room i) law.grammar.unit law.unit_tidy (start law.grammar) is

    -- and where the grammar comes to such a place, reading stops there
    turns_back : {A : Type 0} (n left : ℕ) (test : Token K → Bool) (more : Reads G (ℕ → A → Growth G A)) (says : Spelled G (ℕ → A
        → Growth G A))
        (stops : State G → Type 0) (e : Refusal)
        → ((s : State G) (g : ℕ → A → Growth G A) (t : State G) → says s g t → more s ≡ Ok (g, t)) → ((s : State G) → stops s
        → more s ≡ Err e)
        → ((s : State G) (g : ℕ → A → Growth G A) (t : State G) → more s ≡ Ok (g, t) → s.at + 1 ≤ t.at)
        → (at : ℕ) (a : A) (s : State G) → length toks ≤ left + s.at → GuidedTurnsTo toks n test says stops at a s
        → turns toks left test more at a s ≡ Err e
    turns_back zero zero test more says stops e h k on at a s enough (so, stop) = absurd (omega (arith, enough, some_next law toks test s.at so))
    turns_back zero (suc left) test more says stops e h k on at a s enough (so, stop) = rw (so, k s stop) refl
    turns_back (suc n) zero test more says stops e h k on at a s enough (so, g, u, first, rest) = absurd (omega
        (arith, enough, some_next law toks test s.at so))
    turns_back (suc n) (suc left) test more says stops e h k on at a s enough (so, g, u, first, rest) =
        let one = h s g u first in
        let onward = on s g u one in
        let later = turns_back n left test more says stops e h k on at (g at a u.tree).0 (record u { tree = (g at a u.tree).1 })
        (omega (arith, enough, onward)) rest in
        rw (so, one) later

    one_back : {A : Type 0} (test : Token K → Option A) (s : State G) (e : Refusal) → e ≡ Wrong s.at → tested test (slice_get toks s.at) ≡ None
        → taken (tested test (slice_get toks s.at)) s ≡ Err e
    one_back test s e is none = ap (λ o. taken o s) none ∙ ap (λ f. Err f) (sym is)

    first_back : {A B : Type 0} (f : Reads G (A → B)) (x : Reads G A) (s : State G) (e : Refusal) → f s ≡ Err e
        → (f s >>= λ p. x p.1 >>= λ q. ok_at law (p.0 q.0) q.1) ≡ Err e
    first_back f x s e is = rw is refl

    second_back : {A B : Type 0} (f : Reads G (A → B)) (x : Reads G A) (s u : State G) (g : A → B) (e : Refusal) → f s ≡ Ok (g, u) → x u ≡ Err e
        → (f s >>= λ p. x p.1 >>= λ q. ok_at law (p.0 q.0) q.1) ≡ Err e
    second_back f x s u g e one two = rw (one, two) refl

    comes_back : (inner : N → Reads G ℕ) (says : N → Spelled G ℕ) (lacks : State G → Type 0) (deeper : N → State G → Type 0) (e : Refusal)
        → Gains law toks inner
        → ((n : N) (s : State G) (a : ℕ) (t : State G) → says n s a t → inner n s ≡ Ok (a, t))
        → ((s : State G) → lacks s → e ≡ Wrong s.at) → ((n : N) (s : State G) → deeper n s → inner n s ≡ Err e)
        → {A : Type 0} (f : Form K N G A) → tidy f ≡ true → (s : State G) → comes_guided toks says lacks deeper f s
        → read_with toks inner f s ≡ Err e
    comes_back inner says lacks deeper e gain ok one more (Plain a) neat s is = absurd is
    comes_back inner says lacks deeper e gain ok one more Place neat s is = absurd is
    comes_back inner says lacks deeper e gain ok one more (One test) neat s (here, none) = one_back test s e (one s here) none
    comes_back inner says lacks deeper e gain ok one more (Unless test) neat s (here, so) = rw so (ap (λ f. Err f) (sym (one s here)))
    comes_back inner says lacks deeper e gain ok one more (Both f x) neat s (inl first) =
        first_back (read_with toks inner f) (read_with toks inner x) s e (comes_back inner says lacks deeper e gain ok one more f
        (and_parts (tidy f) (tidy x) neat).0 s first)
    comes_back inner says lacks deeper e gain ok one more (Both f x) neat s (inr (g, u, first, second)) =
        let parts = and_parts (tidy f) (tidy x) neat in
        second_back (read_with toks inner f) (read_with toks inner x) s u g e (complete law toks inner says gain ok f parts.0 s g u first)
        (comes_back inner says lacks deeper e gain ok one more x parts.1 u second)
    comes_back inner says lacks deeper e gain ok one more (Either test x y) neat s (inl (so, is)) =
        rw so (comes_back inner says lacks deeper e gain ok one more x (and_parts (tidy x) (tidy y) neat).0 s is)
    comes_back inner says lacks deeper e gain ok one more (Either test x y) neat s (inr (unless, is)) =
        rw unless (comes_back inner says lacks deeper e gain ok one more y (and_parts (tidy x) (tidy y) neat).1 s is)
    comes_back inner says lacks deeper e gain ok one more (Chain test x rest) neat s (inl first) =
        let all = and_parts (tidy x && eats rest) (tidy rest) neat in
        let front = and_parts (tidy x) (eats rest) all.0 in
        rw (comes_back inner says lacks deeper e gain ok one more x front.0 s first) refl
    comes_back inner says lacks deeper e gain ok one more (Chain test x rest) neat s (inr (a, u, n, first, later)) =
        let all = and_parts (tidy x && eats rest) (tidy rest) neat in
        let front = and_parts (tidy x) (eats rest) all.0 in
        let back = turns_back n (length toks - u.at) test (read_with toks inner rest) (guided_with toks says rest)
        (comes_guided toks says lacks deeper rest) e
        (λ v g w h. complete law toks inner says gain ok rest all.1 v g w h) (λ v h. comes_back inner says lacks deeper e gain ok one more rest all.1 v h)
        (λ v g w is. subst (λ (c : Bool). further c v.at ≤ w.at) front.1 (gains law toks inner gain rest v g w is)) (place_at toks s.at) a u
        (omega arith) later in
        rw (complete law toks inner says gain ok x front.0 s a u first) back
    comes_back inner says lacks deeper e gain ok one more (Inner n) neat s is = more n s is
    comes_back inner says lacks deeper e gain ok one more (Made f) neat s is = rw (comes_back inner says lacks deeper e gain ok one more f neat s is) refl

    back_at : (i : ℕ) (s : State G) → s.at ≡ i → Wrong i ≡ Wrong s.at
    back_at i s e = ap Wrong (sym e)

    lacks_back : (room i : ℕ) (n : N) (s : State G) → lacks_guided law.grammar toks i room n s → read_inner law.grammar toks room n s ≡ Err (Wrong i)
    lacks_back zero i n s (here, unless) = rw unless (ap (λ j. Err (Wrong j)) here)
    lacks_back (suc room) i n s (inl (here, unless)) = rw unless (ap (λ j. Err (Wrong j)) here)
    lacks_back (suc room) i n s (inr (so, is)) =
        rw so (comes_back (read_inner law.grammar toks room) (guided_inner law.grammar toks room) (λ u. u.at ≡ i)
        (lacks_guided law.grammar toks i room) (Wrong i) (inner_gains law toks room)
        (inner_complete law toks room) (back_at i) (λ m u h. lacks_back room i m u h) (law.grammar.form n) (law.form_tidy n) s is)

    opens_back : (room i : ℕ) (n : N) (s : State G) → opens_guided law.grammar toks i room n s → read_inner law.grammar toks room n s ≡ Err (Deep i)
    opens_back zero i n s (here, so) = rw so (ap (λ j. Err (Deep j)) here)
    opens_back (suc room) i n s (so, is) =
        rw so (comes_back (read_inner law.grammar toks room) (guided_inner law.grammar toks room) (λ u. ⊥) (opens_guided law.grammar toks i room)
        (Deep i) (inner_gains law toks room)
        (inner_complete law toks room) (λ u none. absurd none) (λ m u h. opens_back room i m u h) (law.grammar.form n) (law.form_tidy n) s is)

    pub unit_lacked : (room i : ℕ) → LacksGuided law.grammar room toks i → read law.grammar toks room law.grammar.unit (start law.grammar)
        ≡ Err (Wrong i)
    unit_lacked room i is = comes_back (read_inner law.grammar toks room) (guided_inner law.grammar toks room) (λ u. u.at ≡ i)
        (lacks_guided law.grammar toks i room) (Wrong i)
        (inner_gains law toks room) (inner_complete law toks room) (back_at i) (lacks_back room i) law.grammar.unit law.unit_tidy (start law.grammar) is

    pub unit_opened : (room i : ℕ) → OpensGuided law.grammar room toks i → read law.grammar toks room law.grammar.unit (start law.grammar)
        ≡ Err (Deep i)
    unit_opened room i is =
        comes_back (read_inner law.grammar toks room) (guided_inner law.grammar toks room) (λ u. ⊥) (opens_guided law.grammar toks i room) (Deep i)
        (inner_gains law toks room)
        (inner_complete law toks room) (λ u none. absurd none) (opens_back room i) law.grammar.unit law.unit_tidy (start law.grammar) is
