-- Tokens along which the grammar leads begin a whole tree: what is open at their end can be completed.
use Rattle.std.proofs.Common.{◌≡◌, ◌∙◌, ◌<◌, ◌≤◌, ◌+◌, ◌⊎◌, inl, inr, ℕ, zero, suc, Bool, true, false, List, [], ◌∷◌, ◌++◌, take, drop, length}
use Rattle.std.proofs.Common.{slice_get, Some, refl, sym, ap, subst, arith, length-append}
use Rattle.std.specs.Prelude.{is_some, ◌&&◌}
use Rattle.std.proofs.lemmas.Bool.{cases_eq}
use Rattle.std.proofs.lemmas.Option.{slice_get_past}
use Rattle.std.proofs.lemmas.List.{take-append-drop, length-take-le, append_assoc, length_push}
use Rattle.vg_forms.specs.Forms.{Form, Plain, Place, One, Unless, Both, Either, Chain, Inner, Made, Growth}
use Rattle.vg_forms.specs.Places.{State, place_at, passes, tested}
use Rattle.vg_forms.specs.Spelling.{Spelled, start}
use Rattle.vg_forms.specs.Guided.{GuidedTurns, guided_with, guided_inner, guided}
use Rattle.vg_forms.specs.Refusals.{Begins}
use Rattle.vg_forms.specs.Guided.{GuidedTurnsTo, comes_guided, lacks_guided, LacksGuided, opens_guided, OpensGuided}
use Rattle.vg_forms.proofs.Checks.{eats}
use Rattle.vg_forms.proofs.Onward.{further, further-least}
use Rattle.vg_forms.proofs.Prefixes.{get_front}
use Rattle.vg_forms.proofs.Telling.{spelled_of}
use Rattle.vg_forms.proofs.Checks.{whole, fits, calls}
use Rattle.vg_forms.proofs.Going.{bool_cases, halts, halts_none, halts_second, halts_both, halts_left, halts_right, halts_side, halts_first}
use Rattle.vg_forms.proofs.Going.{halts_more, halts_test, halts_form, fits_both, fits_either, fits_chain, Gaining, spelled_gains, turns_gain, Goes}
use Rattle.vg_forms.proofs.Going.{ends, begins_at, goes_one, goes_none, goes_both, goes_left, goes_right, goes_made, goes_form, Rounds, goes_chain}
use Rattle.vg_forms.proofs.Going.{Stands, Ready, stands_front, stands_back, both_end, shortest, room_begins}
use Rattle.vg_forms.specs.declared.token.Token.{Token}
use Rattle.vg_forms.proofs.Checks.{Law}

below_or : (a b : ℕ) → a ≤ b → (a < b) ⊎ (a ≡ b)
below_or a b le = elim (cases_eq a b) [
  | inl same ↦ inr same
  | inr other ↦ inl (grind (arith, le, other))
]

eaten : (b : Bool) (i j : ℕ) → further b i ≤ j → b ≡ true → i + 1 ≤ j
eaten true i j h so = h
eaten false i j h so = absurd (cc)

and_both : (a b : Bool) → a ≡ true → b ≡ true → (a && b) ≡ true
and_both a b one two = rw (one, two) refl

module _ {K N G : Type 0} (law : Law K N G) where
  all_called : {A : Type 0} (f : Form K N G A) → calls (λ n. true) f ≡ true
  all_called (Plain a) = refl
  all_called Place = refl
  all_called (One test) = refl
  all_called (Unless test) = refl
  all_called (Both f x) = and_both (calls (λ n. true) f) (calls (λ n. true) x) (all_called f) (all_called x)
  all_called (Either test x y) = all_called y
  all_called (Chain test x more) = all_called x
  all_called (Inner n) = refl
  all_called (Made f) = all_called f

  module _ (toks : List (Token K)) (i : ℕ) where
    -- another text has the same first tokens
    abbrev pub Agrees : List (Token K) → Type 0
    Agrees all = (k : ℕ) → k < i → slice_get all k ≡ slice_get toks k

    -- what is gone along of the first tokens is gone along there, if the next token ends it
    abbrev Surely : List (Token K) → (N → Spelled G ℕ) → (N → Spelled G ℕ) → Type 0
    Surely all says far = (n : N) (s : State G) (a : ℕ) (t : State G) → says n s a t → t.at ≤ i → (t.at ≡ i → halts law (Inner n)
        (slice_get all i) ≡ true)
        → Goes law all far (Inner n) s.at t.at

    module _ (all : List (Token K)) (agrees : Agrees all) (says far : N → Spelled G ℕ) (gain : Gaining law toks says) (inner : Surely all says far) where
      same_test : (test : Token K → Bool) (k : ℕ) → k < i → passes test (slice_get all k) ≡ passes test (slice_get toks k)
      same_test test k less = ap (passes test) (agrees k less)

      turns_sure : {A : Type 0} (n : ℕ) (test : Token K → Bool) (more : Form K N G (ℕ → A → Growth G A)) → eats more ≡ true
          → ((s : State G) (g : ℕ → A → Growth G A) (t : State G) → guided_with toks says more s g t → t.at ≤ i
          → (t.at ≡ i → halts law more (slice_get all i) ≡ true) → Goes law all far more s.at t.at)
          → (at : ℕ) (a : A) (s : State G) (b : A) (t : State G) → GuidedTurns toks n test (guided_with toks says more) at a s b t → t.at ≤ i
          → (t.at ≡ i → halts law more (slice_get all i) ≡ true) → (t.at ≡ i → passes test (slice_get all i) ≡ false)
          → Rounds law all far n test more s.at t.at
      turns_sure zero test more eat h at a s b t (unless, same, to) le ended tested =
          let here : t.at ≡ s.at = ap (λ (u : State G). u.at) to in
          let none : passes test (slice_get all s.at) ≡ false = elim (below_or s.at i (omega (arith, here, le))) [
            | inl less ↦ same_test test s.at less ∙ unless
            | inr end ↦ ap (λ n. passes test (slice_get all n)) end ∙ tested (here ∙ end)
          ] in
          (none, here)
      turns_sure (suc n) test more eat h at a s b t (so, g, u, one, rest) le ended tested =
          let step = eaten (eats more) s.at u.at (spelled_gains law toks says gain more s g u one) eat in
          let later : u.at ≤ t.at =
          turns_gain law toks n test (guided_with toks says more) (λ v p w is. further-least (eats more) v.at w.at
          (spelled_gains law toks says gain more v p w is)) at (g at a u.tree).0 (record u { tree = (g at a u.tree).1 }) b t rest in (
            same_test test s.at (omega (arith, step, later, le)) ∙ so,
            u.at,
            h s g u one (omega (arith, later, le)) (λ here. ended (omega (arith, here, later, le))),
            turns_sure n test more eat h at (g at a u.tree).0 (record u { tree = (g at a u.tree).1 }) b t rest le ended tested,
          )

      pub sure : {A : Type 0} (f : Form K N G A) → fits law.hints f ≡ true → (s : State G) (a : A) (t : State G)
          → guided_with toks says f s a t → t.at ≤ i
          → (t.at ≡ i → halts law f (slice_get all i) ≡ true) → Goes law all far f s.at t.at
      sure (Plain b) fit s a t (same, to) le ended = λ v e. (b, v, (refl, refl), e ∙ sym (ap (λ (u : State G). u.at) to))
      sure Place fit s a t (same, to) le ended = λ v e. (place_at all v.at, v, (refl, refl), e ∙ sym (ap (λ (u : State G). u.at) to))
      sure (One test) fit s a t (x, found, is, to) le ended =
          let next : t.at ≡ s.at + 1 = ap (λ (u : State G). u.at) to in
          ends law all far (One test) s.at (s.at + 1) t.at (sym next) (goes_one law all far test s.at x (agrees s.at (omega (arith, next, le))
          ∙ found) (ap is_some is))
      sure (Unless test) fit s a t (unless, to) le ended =
          let here : t.at ≡ s.at = ap (λ (u : State G). u.at) to in
          let none : passes test (slice_get all s.at) ≡ false = elim (below_or s.at i (omega (arith, here, le))) [
            | inl less ↦ same_test test s.at less ∙ unless
            | inr end ↦ ap (λ n. passes test (slice_get all n)) end ∙ halts_none law test (slice_get all i) (ended (here ∙ end))
          ] in
          ends law all far (Unless test) s.at s.at t.at (sym here) (goes_none law all far test s.at none)
      sure (Both f x) fit s b t (g, u, a, one, two, same) le ended =
          let parts = fits_both law f x fit in
          let step = spelled_gains law toks says gain x u a t two in
          let later = further-least (eats x) u.at t.at step in
          goes_both law all far f x s.at u.at t.at
          (sure f parts.0 s g u one (omega (arith, later, le)) (λ here. elim (bool_cases (eats x)) [
            | inl so ↦ absurd (omega (arith, eaten (eats x) u.at t.at step so, here, le))
            | inr none ↦ halts_both law f x (slice_get all i) none (ended (omega (arith, here, later, le)))
          ]))
          (sure x parts.1 u a t two le (λ here. halts_second law f x (slice_get all i) (ended here)))
      sure (Either test x y) fit s a t (inl (so, one)) le ended =
          let parts = fits_either law test x y fit in
          let step = eaten (eats x) s.at t.at (spelled_gains law toks says gain x s a t one) parts.2 in
          goes_left law all far test x y s.at t.at (same_test test s.at (omega (arith, step, le)) ∙ so)
          (sure x parts.0 s a t one le (λ here. halts_left law test x y (slice_get all i) (ended here)))
      sure (Either test x y) fit s a t (inr (unless, two)) le ended =
          let parts = fits_either law test x y fit in
          let step = spelled_gains law toks says gain y s a t two in
          let later = further-least (eats y) s.at t.at step in
          let none : passes test (slice_get all s.at) ≡ false = elim (below_or s.at i (omega (arith, later, le))) [
            | inl less ↦ same_test test s.at less ∙ unless
            | inr end ↦ elim (bool_cases (eats y)) [
              | inl so ↦ absurd (omega (arith, eaten (eats y) s.at t.at step so, end, le))
              | inr plain ↦ ap (λ n. passes test (slice_get all n)) end ∙ halts_side law test x y (slice_get all i) plain (ended (omega
                  (arith, end, later, le)))
            ]
          ] in
          goes_right law all far test x y s.at t.at none (sure y parts.1 s a t two le (λ here. halts_right law test x y (slice_get all i) (ended here)))
      sure (Chain test x more) fit s b t (a, u, n, one, rest) le ended =
          let parts = fits_chain law test x more fit in
          let later : u.at ≤ t.at =
          turns_gain law toks n test (guided_with toks says more) (λ v p w is. further-least (eats more) v.at w.at
          (spelled_gains law toks says gain more v p w is)) (place_at toks s.at) a u b t rest in
          goes_chain law all far n test x more s.at u.at t.at (sure x parts.0 s a u one (omega (arith, later, le))
          (λ here. halts_first law test x more (slice_get all i) (ended (omega (arith, here, later, le)))))
          (turns_sure n test more parts.2 (λ v p w is. sure more parts.1 v p w is) (place_at toks s.at) a u b t rest le
          (λ here. halts_more law test x more (slice_get all i) (ended here)) (λ here. halts_test law test x more (slice_get all i) (ended here)))
      sure (Inner n) fit s a t is le ended = inner n s a t is le ended
      sure (Made f) fit s a t (g, u, one, same, to) le ended =
          let here : t.at ≡ u.at = ap (λ (v : State G). v.at) to in
          goes_made law all far f s.at t.at (ends law all far f s.at u.at t.at (sym here) (sure f fit s g u one (omega (arith, here, le))
          (λ end. ended (here ∙ end))))

    inner_gaining : (room : ℕ) → Gaining law toks (guided_inner law.grammar toks room)
    inner_gaining zero n s a t is = absurd is
    inner_gaining (suc room) n s a t (so, is) =
        eaten (eats (law.grammar.form n)) s.at t.at (spelled_gains law toks (guided_inner law.grammar toks room) (inner_gaining room)
        (law.grammar.form n) s a t is) (law.form_eats n)

    inner_sure : (all : List (Token K)) → Agrees all → (room : ℕ) → Surely all (guided_inner law.grammar toks room)
        (guided_inner law.grammar all (suc (suc room)))
    inner_sure all agrees zero n s a t is le ended = absurd is
    inner_sure all agrees (suc room) n s a t (so, is) le ended =
        let step = inner_gaining (suc room) n s a t (so, is) in
        goes_form law all (suc (suc room)) n s.at t.at (ap (passes (law.grammar.begins n)) (agrees s.at (omega (arith, step, le))) ∙ so)
        (sure all agrees (guided_inner law.grammar toks room) (guided_inner law.grammar all (suc (suc room))) (inner_gaining room)
        (inner_sure all agrees room) (law.grammar.form n)
        (law.form_fits n) s a t is le (λ here. halts_form law n (slice_get all i) (ended here)))

    -- where the grammar needs a token is not before the start
    turns_within : {A : Type 0} (n : ℕ) (test : Token K → Bool) (says : Spelled G (ℕ → A → Growth G A)) (stops : State G → Type 0)
        → ((s : State G) (g : ℕ → A → Growth G A) (t : State G) → says s g t → s.at ≤ t.at) → ((s : State G) → stops s → s.at ≤ i)
        → (at : ℕ) (a : A) (s : State G) → GuidedTurnsTo toks n test says stops at a s → s.at ≤ i
    turns_within zero test says stops h k at a s (so, is) = k s is
    turns_within (suc n) test says stops h k at a s (so, g, u, one, rest) =
        omega (arith, h s g u one, turns_within n test says stops h k at (g at a u.tree).0 (record u { tree = (g at a u.tree).1 }) rest)

    module _ (says : N → Spelled G ℕ) (lacks : N → State G → Type 0) (gain : Gaining law toks says)
        (near : (n : N) (s : State G) → lacks n s → s.at ≤ i) where
      comes_within : {A : Type 0} (f : Form K N G A) (s : State G) → comes_guided toks says (λ u. u.at ≡ i) lacks f s → s.at ≤ i
      comes_within (Plain a) s is = absurd is
      comes_within Place s is = absurd is
      comes_within (One test) s (here, none) = omega (arith, here)
      comes_within (Unless test) s (here, so) = omega (arith, here)
      comes_within (Both f x) s (inl first) = comes_within f s first
      comes_within (Both f x) s (inr (g, u, one, second)) = omega (
        arith,
        further-least (eats f) s.at u.at (spelled_gains law toks says gain f s g u one),
        comes_within x u second,
      )
      comes_within (Either test x y) s (inl (so, is)) = comes_within x s is
      comes_within (Either test x y) s (inr (unless, is)) = comes_within y s is
      comes_within (Chain test x more) s (inl first) = comes_within x s first
      comes_within (Chain test x more) s (inr (a, u, n, one, later)) =
          omega (
            arith,
            further-least (eats x) s.at u.at (spelled_gains law toks says gain x s a u one),
            turns_within n test (guided_with toks says more) (comes_guided toks says (λ u. u.at ≡ i) lacks more)
                (λ v p w is. further-least (eats more) v.at w.at (spelled_gains law toks says gain more v p w is)) (λ v is. comes_within more v is)
                (place_at toks s.at) a u later,
          )
      comes_within (Inner n) s is = near n s is
      comes_within (Made f) s is = comes_within f s is

      -- what completes a form: tokens with which it goes on from the place and comes to its end
      module _ (far : List (Token K) → N → Spelled G ℕ) (kept : (all : List (Token K)) → Agrees all → Surely all says (far all))
          (ready : (all : List (Token K)) → Ready law all (λ n. true) (far all)) where
        short : (all : List (Token K)) {A : Type 0} (f : Form K N G A) → fits law.hints f ≡ true → (j k : ℕ) → k ≡ j + length
            (whole law.hints f) → Stands law all j (whole law.hints f)
            → halts law f (slice_get all k) ≡ true → Goes law all (far all) f j k
        short all f fit j k far-off stand ended = shortest law all (λ n. true) (far all) (ready all) f fit (all_called f) j k far-off stand ended

        abbrev pub Completed : {A : Type 0} → Form K N G A → State G → Type 0
        Completed f s = (more : List (Token K)) × ((all : List (Token K)) → Agrees all → Stands law all i more → halts law f (slice_get all
            (i + length more)) ≡ true
            → Goes law all (far all) f s.at (i + length more))

        abbrev Turning : {A : Type 0} → (Token K → Bool) → Form K N G (ℕ → A → Growth G A) → State G → Type 0
        Turning test rest s = (more : List (Token K)) × (s.at ≡ i → more ≡ []) × ((all : List (Token K)) → Agrees all → Stands law all i more
            → halts law rest (slice_get all (i + length more)) ≡ true
            → passes test (slice_get all (i + length more)) ≡ false → (n : ℕ) × Rounds law all (far all) n test rest s.at (i + length more))

        -- a chain that comes to its next turn at the place has none
        turning_end : {A : Type 0} (test : Token K → Bool) (rest : Form K N G (ℕ → A → Growth G A)) (s : State G) → s.at ≡ i
            → Turning test rest s
        turning_end test rest s end = (
          [],
          (λ here. refl),
          λ all agrees stand ended tested. (
            0,
            (ap (λ n. passes test (slice_get all n)) (omega (arith, end)) ∙ tested, omega (arith, end)),
          ),
        )

        turns_complete : {A : Type 0} (n : ℕ) (test : Token K → Bool) (rest : Form K N G (ℕ → A → Growth G A)) → fits law.hints rest ≡ true
            → ((s : State G) → comes_guided toks says (λ u. u.at ≡ i) lacks rest s → s.at < i → Completed rest s)
            → (at : ℕ) (a : A) (s : State G) → GuidedTurnsTo toks n test (guided_with toks says rest) (comes_guided toks says (λ u. u.at
            ≡ i) lacks rest)
            at a s → s.at ≤ i → Turning test rest s
        turns_complete zero test rest fit h at a s (so, is) le = elim (below_or s.at i le) [
          | inr end ↦ turning_end test rest s end
          | inl less ↦
              let c = h s is less in (
                c.0,
                (λ here. absurd (omega (arith, here, less))),
                λ all agrees stand ended tested. (
                  1,
                  (
                    ap (passes test) (agrees s.at less) ∙ so,
                    i + length c.0,
                    c.1 all agrees stand ended,
                    (tested, refl),
                  ),
                ),
              )
        ]
        turns_complete (suc n) test rest fit h at a s (so, g, u, one, later) le = elim (below_or s.at i le) [
          | inr end ↦ turning_end test rest s end
          | inl less ↦
              let there : u.at ≤ i =
              turns_within n test (guided_with toks says rest) (comes_guided toks says (λ u. u.at ≡ i) lacks rest)
              (λ v p w is. further-least (eats rest) v.at w.at (spelled_gains law toks says gain rest v p w is)) (λ v is. comes_within rest v is)
              at (g at a u.tree).0 (record u { tree = (g at a u.tree).1 }) later in
              let c = turns_complete n test rest fit h at (g at a u.tree).0 (record u { tree = (g at a u.tree).1 }) later there in (
                c.0,
                (λ here. absurd (omega (arith, here, less))),
                λ all agrees stand ended tested.
                    let r = c.2 all agrees stand ended tested in (
                      suc r.0,
                      (
                        ap (passes test) (agrees s.at less) ∙ so,
                        u.at,
                        sure all agrees says (far all) gain (kept all agrees) rest fit s g u one there
                            (λ here. let same : i + length c.0 ≡ i = omega (arith, ap length (c.1 here)) in
                            ap (λ n. halts law rest (slice_get all n)) (sym same) ∙ ended),
                        r.1,
                      ),
                    ),
              )
        ]

        pub complete : {A : Type 0} (f : Form K N G A) → fits law.hints f ≡ true → ((n : N) (s : State G) → lacks n s → s.at < i
            → Completed (Inner n) s)
            → (s : State G) → comes_guided toks says (λ u. u.at ≡ i) lacks f s → s.at < i → Completed f s
        complete (Plain a) fit inner s is less = absurd is
        complete Place fit inner s is less = absurd is
        complete (One test) fit inner s (here, none) less = absurd (omega (arith, here, less))
        complete (Unless test) fit inner s (here, so) less = absurd (omega (arith, here, less))
        complete (Both f x) fit inner s (inl first) less =
            let parts = fits_both law f x fit in
            let c = complete f parts.0 inner s first less in (
              c.0 ++ whole law.hints x,
              λ all agrees stand ended.
                  let k = i + length (c.0 ++ whole law.hints x) in
                  let j = i + length c.0 in
                  let last : k ≡ j + length (whole law.hints x) = omega (arith, length-append c.0 (whole law.hints x)) in
                  let behind = stands_back law all c.0 (whole law.hints x) i stand in
                  goes_both law all (far all) f x s.at j k (c.1 all agrees (stands_front law all c.0 (whole law.hints x) i stand)
                  (both_end law all f x j k last fit behind ended)) (short all x parts.1 j k last behind (halts_second law f x (slice_get all k) ended)),
            )
        complete (Both f x) fit inner s (inr (g, u, one, second)) less =
            let parts = fits_both law f x fit in
            elim (below_or u.at i (comes_within x u second)) [
              | inl inside ↦
                  let c = complete x parts.1 inner u second inside in (
                    c.0,
                    λ all agrees stand ended.
                        goes_both law all (far all) f x s.at u.at (i + length c.0) (sure all agrees says (far all) gain (kept all agrees) f parts.0 s g u
                        one (omega (arith, inside)) (λ here. absurd (omega (arith, here, inside))))
                        (c.1 all agrees stand (halts_second law f x (slice_get all (i + length c.0)) ended)),
                  )
              | inr end ↦ (
                whole law.hints x,
                λ all agrees stand ended.
                    let k = i + length (whole law.hints x) in
                    goes_both law all (far all) f x s.at u.at k (sure all agrees says (far all) gain (kept all agrees) f parts.0 s g u one
                    (omega (arith, end)) (λ here. both_end law all f x i k refl fit stand ended))
                    (begins_at law all (far all) x i u.at k (sym end) (short all x parts.1 i k refl stand (halts_second law f x (slice_get all k) ended))),
              )
            ]
        complete (Either test x y) fit inner s (inl (so, is)) less =
            let c = complete x (fits_either law test x y fit).0 inner s is less in (
              c.0,
              λ all agrees stand ended.
                  goes_left law all (far all) test x y s.at (i + length c.0) (ap (passes test) (agrees s.at less) ∙ so)
                  (c.1 all agrees stand (halts_left law test x y (slice_get all (i + length c.0)) ended)),
            )
        complete (Either test x y) fit inner s (inr (unless, is)) less =
            let c = complete y (fits_either law test x y fit).1 inner s is less in (
              c.0,
              λ all agrees stand ended.
                  goes_right law all (far all) test x y s.at (i + length c.0) (ap (passes test) (agrees s.at less) ∙ unless)
                  (c.1 all agrees stand (halts_right law test x y (slice_get all (i + length c.0)) ended)),
            )
        complete (Chain test x more) fit inner s (inl first) less =
            let c = complete x (fits_chain law test x more fit).0 inner s first less in (
              c.0,
              λ all agrees stand ended.
                  let k = i + length c.0 in
                  goes_chain law all (far all) 0 test x more s.at k k (c.1 all agrees stand (halts_first law test x more (slice_get all k) ended))
                  (halts_test law test x more (slice_get all k) ended, refl),
            )
        complete (Chain test x more) fit inner s (inr (a, u, n, one, later)) less =
            let parts = fits_chain law test x more fit in
            let there : u.at ≤ i =
            turns_within n test (guided_with toks says more) (comes_guided toks says (λ u. u.at ≡ i) lacks more)
            (λ v p w is. further-least (eats more) v.at w.at (spelled_gains law toks says gain more v p w is)) (λ v is. comes_within more v is)
            (place_at toks s.at) a u later in
            let c = turns_complete n test more parts.1 (λ v is inside. complete more parts.1 inner v is inside) (place_at toks s.at) a u later there in (
              c.0,
              λ all agrees stand ended.
                  let k = i + length c.0 in
                  let r = c.2 all agrees stand (halts_more law test x more (slice_get all k) ended) (halts_test law test x more (slice_get all k) ended) in
                  goes_chain law all (far all) r.0 test x more s.at u.at k
                  (sure all agrees says (far all) gain (kept all agrees) x parts.0 s a u one there
                  (λ here. let same : k ≡ i = omega (arith, ap length (c.1 here)) in ap (λ n. halts law x (slice_get all n)) (sym same)
                  ∙ halts_first law test x more (slice_get all k) ended))
                  r.1,
            )
        complete (Inner n) fit inner s is less = inner n s is less
        complete (Made f) fit inner s is less =
            let c = complete f fit inner s is less in
            (c.0, λ all agrees stand ended. goes_made law all (far all) f s.at (i + length c.0) (c.1 all agrees stand ended))

    -- constructs that are counted
    inner_within : (room : ℕ) (n : N) (s : State G) → lacks_guided law.grammar toks i room n s → s.at ≤ i
    inner_within zero n s (here, unless) = omega (arith, here)
    inner_within (suc room) n s (inl (here, unless)) = omega (arith, here)
    inner_within (suc room) n s (inr (so, is)) = comes_within (guided_inner law.grammar toks room) (lacks_guided law.grammar toks i room) (inner_gaining room)
        (inner_within room) (law.grammar.form n) s is

    abbrev roomy : ℕ → List (Token K) → N → Spelled G ℕ
    roomy room all = guided_inner law.grammar all (suc (suc room))

    inner_complete : (room : ℕ) (n : N) (s : State G) → lacks_guided law.grammar toks i room n s → s.at < i
        → Completed (guided_inner law.grammar toks room) (lacks_guided law.grammar toks i room) (inner_gaining room) (inner_within room) (roomy room)
        (λ all agrees. inner_sure all agrees room) (λ all. room_begins law all room) (Inner n) s
    inner_complete zero n s (here, unless) less = absurd (omega (arith, here, less))
    inner_complete (suc room) n s (inl (here, unless)) less = absurd (omega (arith, here, less))
    inner_complete (suc room) n s (inr (so, is)) less =
        let c = complete (guided_inner law.grammar toks room) (lacks_guided law.grammar toks i room) (inner_gaining room) (inner_within room) (roomy room)
        (λ all agrees. inner_sure all agrees room) (λ all. room_begins law all room) (law.grammar.form n) (law.form_fits n)
        (inner_complete room) s is less in (
          c.0,
          λ all agrees stand ended.
              goes_form law all (suc (suc room)) n s.at (i + length c.0) (ap (passes (law.grammar.begins n)) (agrees s.at less) ∙ so)
              (c.1 all agrees stand (halts_form law n (slice_get all (i + length c.0)) ended)),
        )

    unit_complete : (room : ℕ) → LacksGuided law.grammar room toks i
        → Completed (guided_inner law.grammar toks room) (lacks_guided law.grammar toks i room) (inner_gaining room) (inner_within room) (roomy room)
        (λ all agrees. inner_sure all agrees room) (λ all. room_begins law all room) law.grammar.unit (start law.grammar)
    unit_complete room is = elim (below_or 0 i (omega arith)) [
      | inl less ↦ complete (guided_inner law.grammar toks room) (lacks_guided law.grammar toks i room) (inner_gaining room) (inner_within room)
          (roomy room)
          (λ all agrees. inner_sure all agrees room) (λ all. room_begins law all room) law.grammar.unit law.unit_fits (inner_complete room)
          (start law.grammar) is less
      | inr same ↦ (
        whole law.hints law.grammar.unit,
        λ all agrees stand ended.
            begins_at law all (roomy room all) law.grammar.unit i 0 (i + length (whole law.hints law.grammar.unit)) (sym same)
            (short (guided_inner law.grammar toks room) (lacks_guided law.grammar toks i room) (inner_gaining room) (inner_within room) (roomy room)
            (λ all agrees. inner_sure all agrees room) (λ all. room_begins law all room) all law.grammar.unit law.unit_fits i (i + length
            (whole law.hints law.grammar.unit)) refl
            stand ended),
      )
    ]

  module _ (toks : List (Token K)) (i : ℕ) where
    -- what comes to a construct without room
    turns_also : {A : Type 0} (n : ℕ) (test : Token K → Bool) (says : Spelled G (ℕ → A → Growth G A)) (one two : State G → Type 0)
        → ((s : State G) → one s → two s) → (at : ℕ) (a : A) (s : State G)
        → GuidedTurnsTo toks n test says one at a s → GuidedTurnsTo toks n test says two at a s
    turns_also zero test says one two h at a s (so, is) = (so, h s is)
    turns_also (suc n) test says one two h at a s (so, g, u, first, rest) = (
      so,
      g,
      u,
      first,
      turns_also n test says one two h at (g at a u.tree).0 (record u { tree = (g at a u.tree).1 }) rest,
    )

    also : (says : N → Spelled G ℕ) (opens : N → State G → Type 0) {A : Type 0} (f : Form K N G A) (s : State G)
        → comes_guided toks says (λ u. ⊥) opens f s → comes_guided toks says (λ u. u.at ≡ i) opens f s
    also says opens (Plain a) s is = absurd is
    also says opens Place s is = absurd is
    also says opens (One test) s (here, none) = absurd here
    also says opens (Unless test) s (here, so) = absurd here
    also says opens (Both f x) s (inl first) = inl (also says opens f s first)
    also says opens (Both f x) s (inr (g, u, one, second)) = inr (g, u, one, also says opens x u second)
    also says opens (Either test x y) s (inl (so, is)) = inl (so, also says opens x s is)
    also says opens (Either test x y) s (inr (unless, is)) = inr (unless, also says opens y s is)
    also says opens (Chain test x more) s (inl first) = inl (also says opens x s first)
    also says opens (Chain test x more) s (inr (a, u, n, one, later)) =
        inr (
          a,
          u,
          n,
          one,
          turns_also n test (guided_with toks says more) (comes_guided toks says (λ u. ⊥) opens more)
              (comes_guided toks says (λ u. u.at ≡ i) opens more) (λ v is. also says opens more v is) (place_at toks s.at) a u later,
        )
    also says opens (Inner n) s is = is
    also says opens (Made f) s is = also says opens f s is

    opens_within : (room : ℕ) (n : N) (s : State G) → opens_guided law.grammar toks i room n s → s.at ≤ i
    opens_within zero n s (here, so) = omega (arith, here)
    opens_within (suc room) n s (so, is) =
        comes_within toks i (guided_inner law.grammar toks room) (opens_guided law.grammar toks i room) (inner_gaining toks i room)
        (opens_within room) (law.grammar.form n) s
        (also (guided_inner law.grammar toks room) (opens_guided law.grammar toks i room) (law.grammar.form n) s is)

    opens_complete : (room : ℕ) (n : N) (s : State G) → opens_guided law.grammar toks i room n s → s.at < i
        → Completed toks i (guided_inner law.grammar toks room) (opens_guided law.grammar toks i room) (inner_gaining toks i room)
        (opens_within room) (roomy toks i room)
        (λ all agrees. inner_sure toks i all agrees room) (λ all. room_begins law all room) (Inner n) s
    opens_complete zero n s (here, so) less = absurd (omega (arith, here, less))
    opens_complete (suc room) n s (so, is) less =
        let c = complete toks i (guided_inner law.grammar toks room) (opens_guided law.grammar toks i room) (inner_gaining toks i room)
        (opens_within room) (roomy toks i room)
        (λ all agrees. inner_sure toks i all agrees room) (λ all. room_begins law all room) (law.grammar.form n) (law.form_fits n)
        (opens_complete room) s (also (guided_inner law.grammar toks room) (opens_guided law.grammar toks i room) (law.grammar.form n) s is) less in (
          c.0,
          λ all agrees stand ended.
              goes_form law all (suc (suc room)) n s.at (i + length c.0) (ap (passes (law.grammar.begins n)) (agrees s.at less) ∙ so)
              (c.1 all agrees stand (halts_form law n (slice_get all (i + length c.0)) ended)),
        )

    opened_complete : (room : ℕ) → OpensGuided law.grammar room toks i
        → Completed toks i (guided_inner law.grammar toks room) (opens_guided law.grammar toks i room) (inner_gaining toks i room)
        (opens_within room) (roomy toks i room)
        (λ all agrees. inner_sure toks i all agrees room) (λ all. room_begins law all room) law.grammar.unit (start law.grammar)
    opened_complete room is = elim (below_or 0 i (omega arith)) [
      | inl less ↦
          complete toks i (guided_inner law.grammar toks room) (opens_guided law.grammar toks i room) (inner_gaining toks i room) (opens_within room)
          (roomy toks i room)
          (λ all agrees. inner_sure toks i all agrees room) (λ all. room_begins law all room) law.grammar.unit law.unit_fits
          (opens_complete room) (start law.grammar) (also (guided_inner law.grammar toks room) (opens_guided law.grammar toks i room) law.grammar.unit
          (start law.grammar) is) less
      | inr same ↦ (
        whole law.hints law.grammar.unit,
        λ all agrees stand ended.
            begins_at law all (roomy toks i room all) law.grammar.unit i 0 (i + length (whole law.hints law.grammar.unit)) (sym same)
            (short toks i (guided_inner law.grammar toks room) (opens_guided law.grammar toks i room) (inner_gaining toks i room) (opens_within room)
            (roomy toks i room)
            (λ all agrees. inner_sure toks i all agrees room) (λ all. room_begins law all room) all law.grammar.unit law.unit_fits i
            (i + length (whole law.hints law.grammar.unit)) refl stand ended),
      )
    ]

  -- tokens behind others
  get_behind : (front : List (Token K)) (x : Token K) (xs : List (Token K)) → slice_get (front ++ x ∷ xs) (length front) ≡ Some x
  get_behind [] x xs = refl
  get_behind (y ∷ front) x xs = get_behind front x xs

  stands_behind : (more front : List (Token K)) → Stands law (front ++ more) (length front) more
  stands_behind [] front = tt
  stands_behind (x ∷ more) front =
      let rest = stands_behind more (front ++ x ∷ []) in
      let here : length (front ++ x ∷ []) ≡ length front + 1 = length_push front x in (
        get_behind front x more,
        subst (λ n. Stands law (front ++ x ∷ more) n more) here (subst (λ l. Stands law l (length (front ++ x ∷ [])) more)
            (append_assoc front (x ∷ []) more) rest),
      )

  -- tokens along which the grammar goes begin a whole tree
  begun_by : (toks : List (Token K)) (room i : ℕ) → i ≤ length toks
      → (more : List (Token K)) × ((all : List (Token K)) → Agrees toks i all → Stands law all i more → halts law law.grammar.unit
      (slice_get all (i + length more)) ≡ true
      → Goes law all (guided_inner law.grammar all (suc (suc room))) law.grammar.unit 0 (i + length more)) → Begins law.grammar (take i toks)
  begun_by toks room i le c =
      let front = take i toks in
      let all = front ++ c.0 in
      let size : length front ≡ i = length-take-le i toks le in
      let agrees : Agrees toks i all = λ k less.
      get_front law front c.0 k (omega (arith, less, size)) ∙ sym (get_front law front (drop i toks) k (omega (arith, less, size)))
      ∙ ap (λ (l : List (Token K)). slice_get l k) (take-append-drop i toks) in
      let stand : Stands law all i c.0 = subst (λ n. Stands law all n c.0) size (stands_behind c.0 front) in
      let end : length all ≡ i + length c.0 = omega (arith, length-append front c.0, size) in
      let ended : halts law law.grammar.unit (slice_get all (i + length c.0)) ≡ true = ap (halts law law.grammar.unit) (slice_get_past all
      (i + length c.0) (omega (arith, end))) in
      let g = c.1 all agrees stand ended (start law.grammar) refl in
      let to : g.1 ≡ record { at = length all; tree = g.1.tree } = ap (λ (n : ℕ). record g.1 { at = n }) (g.3 ∙ sym end) in (
        suc (suc room),
        c.0,
        g.1.tree,
        spelled_of law all (suc (suc room)) g.1.tree (
          g.0,
          subst (λ (u : State G). guided law.grammar all (suc
              (suc room)) law.grammar.unit (start law.grammar) g.0 u) to g.2,
        ),
      )

  pub begins_tree : (toks : List (Token K)) (room i : ℕ) → i ≤ length toks → LacksGuided law.grammar room toks i → Begins law.grammar (take i toks)
  begins_tree toks room i le is = begun_by toks room i le (unit_complete toks i room is)

  pub begins_opened : (toks : List (Token K)) (room i : ℕ) → i ≤ length toks → OpensGuided law.grammar room toks i → Begins law.grammar
      (take i toks)
  begins_opened toks room i le is = begun_by toks room i le (opened_complete toks i room is)
