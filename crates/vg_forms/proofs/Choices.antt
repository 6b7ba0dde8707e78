-- The tests of the grammar's forms take nothing away: of each token that may stand at a choice, they tell the side that spells it.
use Rattle.std.proofs.Common.{◌≡◌, ◌∙◌, ◌⊎◌, inl, inr, ℕ, zero, suc, Bool, true, false, List, slice_get, Option, Some, None, refl, sym, ap, subst}
use Rattle.std.specs.Prelude.{◌&&◌, ◌||◌, not, is_some}
use Rattle.std.proofs.lemmas.Bool.{and_parts, not-true}
use Rattle.vg_forms.specs.Forms.{Form, Plain, Place, One, Unless, Both, Either, Chain, Inner, Made, Growth}
use Rattle.vg_forms.specs.Places.{State, place_at, passes}
use Rattle.vg_forms.specs.Spelling.{Spelled, Turns, spelled_with}
use Rattle.vg_forms.specs.Guided.{GuidedTurns, guided_with}
use Rattle.vg_forms.proofs.Checks.{eats}
use Rattle.vg_forms.proofs.Checks.{first, bars, implies, led, tells}
use Rattle.vg_forms.specs.declared.token.Token.{Token}
use Rattle.vg_forms.proofs.Checks.{Law}

-- truth
pub or_left : (a b : Bool) → a ≡ true → (a || b) ≡ true
or_left true b is = refl
or_left false b is = absurd (cc)

pub or_right : (a b : Bool) → b ≡ true → (a || b) ≡ true
or_right true b is = refl
or_right false b is = is

or_none : (a b : Bool) → a ≡ false → b ≡ false → (a || b) ≡ false
or_none a b one two = rw (one, two) refl

pub and_both : (a b : Bool) → a ≡ true → b ≡ true → (a && b) ≡ true
and_both a b one two = rw (one, two) refl

and_first : (a b : Bool) → a ≡ false → (a && b) ≡ false
and_first a b is = rw is refl

and_second : (a b : Bool) → b ≡ false → (a && b) ≡ false
and_second true b is = is
and_second false b is = refl

pub not_of : (a : Bool) → a ≡ false → not a ≡ true
not_of a is = rw is refl

pub implied : (a b : Bool) → implies a b ≡ true → a ≡ true → b ≡ true
implied true b h is = h
implied false b h is = absurd (cc)

not_both : (a : Bool) → a ≡ true → a ≡ false → ⊥
not_both a one two = cc

module _ {K N G : Type 0} (law : Law K N G) where
  -- the next token, if there is one, is one of these
  abbrev pub After : (Token K → Bool) → Option (Token K) → Type 0
  After these None = Unit {0}
  After these (Some t) = these t ≡ true

  pub after_at : (these : Token K → Bool) (o : Option (Token K)) (t : Token K) → o ≡ Some t → these t ≡ true → After these o
  after_at these o t found is = subst (λ p. After these p) (sym found) is

  after_more : (these those : Token K → Bool) → ((t : Token K) → these t ≡ true → those t ≡ true) → (o : Option (Token K))
      → After these o → After those o
  after_more these those h None is = tt
  after_more these those h (Some t) is = h t is

  pub some_passes : (test : Token K → Bool) (o : Option (Token K)) (t : Token K) → o ≡ Some t → test t ≡ true → passes test o ≡ true
  some_passes test o t found is = ap (passes test) found ∙ is

  pub some_fails : (test : Token K → Bool) (o : Option (Token K)) (t : Token K) → o ≡ Some t → not (test t) ≡ true → passes test o ≡ false
  some_fails test o t found is = ap (passes test) found ∙ not-true (test t) is

  none_pass : (test these : Token K → Bool) → ((t : Token K) → these t ≡ true → not (test t) ≡ true) → (o : Option (Token K))
      → After these o → passes test o ≡ false
  none_pass test these h None is = refl
  none_pass test these h (Some t) is = not-true (test t) (h t is)

  pub either_tells : {A : Type 0} (test : Token K → Bool) (x y : Form K N G A) (behind : Bool) (t : Token K) → tells law.grammar law.hints
      (Either test x y) behind t ≡ true
      → (tells law.grammar law.hints x behind t ≡ true) × (tells law.grammar law.hints y behind t ≡ true) × (eats x ≡ true) × (implies
      (first law.grammar x t) (test t) ≡ true)
      × (implies (led law.grammar y behind t) (not (test t)) ≡ true)
  either_tells test x y behind t h =
      let halves = and_parts (tells law.grammar law.hints x behind t && tells law.grammar law.hints y behind t) (eats x && (implies
      (first law.grammar x t) (test t) && implies (led law.grammar y behind t) (not (test t)))) h in
      let parts = and_parts (tells law.grammar law.hints x behind t) (tells law.grammar law.hints y behind t) halves.0 in
      let rest = and_parts (eats x) (implies (first law.grammar x t) (test t) && implies (led law.grammar y behind t) (not (test t))) halves.1 in
      let tests = and_parts (implies (first law.grammar x t) (test t)) (implies (led law.grammar y behind t) (not (test t))) rest.1 in
      (parts.0, parts.1, rest.0, tests.0, tests.1)

  pub led_first : {A : Type 0} (y : Form K N G A) (behind : Bool) (t : Token K) → first law.grammar y t ≡ true → led law.grammar y behind t ≡ true
  led_first y behind t is = or_left (first law.grammar y t) (not (eats y) && (behind && not (bars y t))) is

  led_behind : {A : Type 0} (y : Form K N G A) (behind : Bool) (t : Token K) → eats y ≡ false → behind ≡ true → bars y t ≡ false
      → led law.grammar y behind t ≡ true
  led_behind y behind t none is bar =
      or_right (first law.grammar y t) (not (eats y) && (behind && not (bars y t))) (and_both (not (eats y)) (behind && not (bars y t)) (not_of (eats y) none)
      (and_both behind (not (bars y t)) is (not_of (bars y t) bar)))

  pub chain_tells : {A : Type 0} (test : Token K → Bool) (x : Form K N G A) (more : Form K N G (ℕ → A → Growth G A)) (behind : Bool) (t : Token K)
      → tells law.grammar law.hints (Chain test x more) behind t ≡ true
      → (tells law.grammar law.hints x (first law.grammar more t || behind) t ≡ true) × (tells law.grammar law.hints more
      (first law.grammar more t || behind) t ≡ true) × (eats more ≡ true)
      × (implies (first law.grammar more t) (test t) ≡ true) × (implies behind (not (test t)) ≡ true)
  chain_tells test x more behind t h =
      let halves = and_parts (tells law.grammar law.hints x (first law.grammar more t || behind) t && tells law.grammar law.hints more
      (first law.grammar more t || behind) t)
      (eats more && (implies (first law.grammar more t) (test t) && implies behind (not (test t)))) h in
      let parts = and_parts (tells law.grammar law.hints x (first law.grammar more t || behind) t) (tells law.grammar law.hints more
      (first law.grammar more t || behind) t) halves.0 in
      let rest = and_parts (eats more) (implies (first law.grammar more t) (test t) && implies behind (not (test t))) halves.1 in
      let tests = and_parts (implies (first law.grammar more t) (test t)) (implies behind (not (test t))) rest.1 in
      (parts.0, parts.1, rest.0, tests.0, tests.1)

  module _ (toks : List (Token K)) where
    -- a form that is spelled has no token, and then the next one isn't barred, or the next one is its first
    abbrev pub Leads : {A : Type 0} → Form K N G A → State G → State G → Type 0
    Leads f s u =
        ((u.at ≡ s.at) × (eats f ≡ false) × ((t : Token K) → slice_get toks s.at ≡ Some t → bars f t ≡ false))
        ⊎ ((t : Token K) × (slice_get toks s.at ≡ Some t) × (first law.grammar f t ≡ true))

    -- a construct that is counted has a first token
    abbrev pub Leading : (N → Spelled G ℕ) → Type 0
    Leading says = (n : N) (s : State G) (a : ℕ) (u : State G) → says n s a u → (t : Token K) × (slice_get toks s.at ≡ Some t) ×
        (law.grammar.begins n t ≡ true)

    leads_both : {A B : Type 0} (f : Form K N G (A → B)) (x : Form K N G A) (s v u : State G) → Leads f s v → Leads x v u → Leads (Both f x) s u
    leads_both f x s v u (inr (t, found, is)) second = inr (t, found, or_left (first law.grammar f t) (not (eats f) && first law.grammar x t) is)
    leads_both f x s v u (inl (here, none, bar)) (inr (t, found, is)) =
        inr (
          t,
          ap (λ n. slice_get toks n) (sym here) ∙ found,
          or_right (first law.grammar f t) (not (eats f) && first law.grammar x t)
              (and_both (not (eats f)) (first law.grammar x t) (not_of (eats f) none) is),
        )
    leads_both f x s v u (inl (here, none, bar)) (inl (there, never, bars_it)) =
        inl (there ∙ here, or_none (eats f) (eats x) none never, λ t found. bars_it t (ap (λ n. slice_get toks n) here ∙ found))

    leads_left : {A : Type 0} (test : Token K → Bool) (x y : Form K N G A) (s u : State G) → Leads x s u → Leads (Either test x y) s u
    leads_left test x y s u (inl (here, none, bar)) = inl (here, and_first (eats x) (eats y) none, λ t found. refl)
    leads_left test x y s u (inr (t, found, is)) = inr (t, found, or_left (first law.grammar x t) (first law.grammar y t) is)

    leads_right : {A : Type 0} (test : Token K → Bool) (x y : Form K N G A) (s u : State G) → Leads y s u → Leads (Either test x y) s u
    leads_right test x y s u (inl (here, none, bar)) = inl (here, and_second (eats x) (eats y) none, λ t found. refl)
    leads_right test x y s u (inr (t, found, is)) = inr (t, found, or_right (first law.grammar x t) (first law.grammar y t) is)

    -- turns of a chain have no token, or the next one is the first of a turn
    leads_turns : {A : Type 0} (more : Form K N G (ℕ → A → Growth G A)) (says : Spelled G (ℕ → A → Growth G A))
        → ((s : State G) (g : ℕ → A → Growth G A) (u : State G) → says s g u → Leads more s u)
        → (n at : ℕ) (a : A) (s : State G) (b : A) (u : State G) → Turns toks n says at a s b u → (u.at ≡ s.at)
        ⊎ ((t : Token K) × (slice_get toks s.at ≡ Some t) × (first law.grammar more t ≡ true))
    leads_turns more says h zero at a s b u (same, to) = inl (ap (λ (v : State G). v.at) to)
    leads_turns more says h (suc n) at a s b u (g, v, one, rest) = elim (h s g v one) [
      | inr led_by ↦ inr led_by
      | inl stays ↦ elim (leads_turns more says h n at (g at a v.tree).0 (record v { tree = (g at a v.tree).1 }) b u rest) [
        | inl later ↦ inl (later ∙ stays.0)
        | inr next ↦ inr (next.0, ap (λ n. slice_get toks n) (sym stays.0) ∙ next.1, next.2)
      ]
    ]

    leads_chain : {A : Type 0} (test : Token K → Bool) (x : Form K N G A) (more : Form K N G (ℕ → A → Growth G A)) (s v u : State G)
        → Leads x s v → (u.at ≡ v.at)
        ⊎ ((t : Token K) × (slice_get toks v.at ≡ Some t) × (first law.grammar more t ≡ true))
        → Leads (Chain test x more) s u
    leads_chain test x more s v u (inr (t, found, is)) turns = inr (t, found, or_left (first law.grammar x t) (not (eats x) && first law.grammar more t) is)
    leads_chain test x more s v u (inl (here, none, bar)) (inl there) = inl (there ∙ here, none, λ t found. refl)
    leads_chain test x more s v u (inl (here, none, bar)) (inr (t, found, is)) =
        inr (
          t,
          ap (λ n. slice_get toks n) (sym here) ∙ found,
          or_right (first law.grammar x t) (not (eats x) && first law.grammar more t)
              (and_both (not (eats x)) (first law.grammar more t) (not_of (eats x) none) is),
        )

    pub leads : (says : N → Spelled G ℕ) → Leading says → {A : Type 0} (f : Form K N G A) (s : State G) (a : A) (u : State G)
        → spelled_with toks says f s a u
        → Leads f s u
    leads says h (Plain b) s a u (same, to) = inl (ap (λ (v : State G). v.at) to, refl, λ t found. refl)
    leads says h Place s a u (same, to) = inl (ap (λ (v : State G). v.at) to, refl, λ t found. refl)
    leads says h (One test) s a u (x, found, is, to) = inr (x, found, ap is_some is)
    leads says h (Unless test) s a u (unless, to) = inl (ap (λ (v : State G). v.at) to, refl, λ t found. sym (ap (passes test) found) ∙ unless)
    leads says h (Both f x) s b u (g, v, a, one, two, same) = leads_both f x s v u (leads says h f s g v one) (leads says h x v a u two)
    leads says h (Either test x y) s a u (inl one) = leads_left test x y s u (leads says h x s a u one)
    leads says h (Either test x y) s a u (inr two) = leads_right test x y s u (leads says h y s a u two)
    leads says h (Chain test x more) s b u (a, v, n, one, rest) =
        leads_chain test x more s v u (leads says h x s a v one) (leads_turns more (spelled_with toks says more)
        (λ p g q is. leads says h more p g q is) n (place_at toks s.at) a v b u rest)
    leads says h (Inner n) s a u is = inr (h n s a u is)
    leads says h (Made f) s b u (g, v, one, same, to) = elim (leads says h f s g v one) [
      | inl stays ↦ inl (ap (λ (w : State G). w.at) to ∙ stays.0, stays.1, stays.2)
      | inr next ↦ inr next
    ]

    -- a form that has a token has a first one
    pub leads_some : {A : Type 0} (f : Form K N G A) (s u : State G) → eats f ≡ true → Leads f s u → (t : Token K) × (slice_get toks s.at
        ≡ Some t) × (first law.grammar f t ≡ true)
    leads_some f s u eat (inl (here, none, bar)) = absurd (not_both (eats f) eat none)
    leads_some f s u eat (inr next) = next

    -- the token behind a form that stands before another
    behind_both : {A : Type 0} (x : Form K N G A) (these : Token K → Bool) (v u : State G) → Leads x v u → After these (slice_get toks u.at)
        → After (λ t. led law.grammar x (these t) t) (slice_get toks v.at)
    behind_both x these v u (inr (t, found, is)) after = after_at (λ t. led law.grammar x (these t) t) (slice_get toks v.at) t found (led_first x
        (these t) t is)
    behind_both x these v u (inl (here, none, bar)) after = by (slice_get toks v.at) refl (subst (λ (n : ℕ). After these (slice_get toks n)) here after)
      where
        by : (o : Option (Token K)) → slice_get toks v.at ≡ o → After these o → After (λ t. led law.grammar x (these t) t) (slice_get toks v.at)
        by None found is = subst (λ p. After (λ t. led law.grammar x (these t) t) p) (sym found) tt
        by (Some t) found is = after_at (λ t. led law.grammar x (these t) t) (slice_get toks v.at) t found (led_behind x (these t) t none is (bar t found))

    -- the second side of a choice fails the test
    fails_side : {A : Type 0} (test : Token K → Bool) (x y : Form K N G A) (these : Token K → Bool) → ((t : Token K)
        → tells law.grammar law.hints (Either test x y) (these t) t ≡ true)
        → (s u : State G) → Leads y s u → After these (slice_get toks u.at) → passes test (slice_get toks s.at) ≡ false
    fails_side test x y these h s u (inr (t, found, is)) after =
        some_fails test (slice_get toks s.at) t found (implied (led law.grammar y (these t) t) (not (test t)) (either_tells test x y (these t) t (h t)).4
        (led_first y (these t) t is))
    fails_side test x y these h s u (inl (here, none, bar)) after = by (slice_get toks s.at) refl (subst (λ (n : ℕ). After these
        (slice_get toks n)) here after)
      where
        by : (o : Option (Token K)) → slice_get toks s.at ≡ o → After these o → passes test (slice_get toks s.at) ≡ false
        by None found is = ap (passes test) found
        by (Some t) found is = some_fails test (slice_get toks s.at) t found (implied (led law.grammar y (these t) t) (not (test t))
            (either_tells test x y (these t) t (h t)).4 (led_behind y (these t) t none is (bar t found)))

    -- what is spelled is what the tests lead to
    module _ (says goes : N → Spelled G ℕ) (lead : Leading says) (inner : (n : N) (s : State G) (a : ℕ) (u : State G) → says n s a u
        → After (law.hints.follows n) (slice_get toks u.at) → goes n s a u) where
      turns_guided : {A : Type 0} (test : Token K → Bool) (x : Form K N G A) (more : Form K N G (ℕ → A → Growth G A)) (these : Token K → Bool)
          → ((t : Token K) → tells law.grammar law.hints (Chain test x more) (these t) t ≡ true)
          → ((s : State G) (g : ℕ → A → Growth G A) (u : State G) → spelled_with toks says more s g u
          → After (λ t. first law.grammar more t || these t) (slice_get toks u.at) → guided_with toks goes more s g u)
          → (n at : ℕ) (a : A) (s : State G) (b : A) (u : State G) → Turns toks n (spelled_with toks says more) at a s b u → After these
          (slice_get toks u.at)
          → GuidedTurns toks n test (guided_with toks goes more) at a s b u × After (λ t. first law.grammar more t || these t) (slice_get toks s.at)
      turns_guided test x more these h each zero at a s b u (same, to) after =
          let here : After these (slice_get toks s.at) = subst (λ (v : State G). After these (slice_get toks v.at)) to after in (
            (
              none_pass test these (λ t is. implied (these t) (not (test t)) (chain_tells test x more (these t) t (h t)).4 is) (slice_get toks s.at)
                  here,
              same,
              to,
            ),
            after_more these (λ t. first law.grammar more t || these t) (λ t is. or_right (first law.grammar more t) (these t) is)
                (slice_get toks s.at) here,
          )
      turns_guided test x more these h each (suc n) at a s b u (g, v, one, rest) after =
          let later = turns_guided test x more these h each n at (g at a v.tree).0 (record v { tree = (g at a v.tree).1 }) b u rest after in
          let next = leads_some more s v (chain_tells test x more (these law.hints.any) law.hints.any (h law.hints.any)).2
          (leads says lead more s g v one) in (
            (
              some_passes test (slice_get toks s.at) next.0 next.1 (implied (first law.grammar more next.0) (test next.0)
                  (chain_tells test x more (these next.0) next.0 (h next.0)).3 next.2),
              g,
              v,
              each s g v one later.1,
              later.0,
            ),
            after_at (λ t. first law.grammar more t || these t) (slice_get toks s.at) next.0 next.1 (or_left (first law.grammar more next.0)
                (these next.0) next.2),
          )

      pub guide : {A : Type 0} (f : Form K N G A) (these : Token K → Bool) → ((t : Token K) → tells law.grammar law.hints f (these t) t
          ≡ true) → (s : State G) (a : A) (u : State G)
          → spelled_with toks says f s a u → After these (slice_get toks u.at) → guided_with toks goes f s a u
      guide (Plain b) these h s a u is after = is
      guide Place these h s a u is after = is
      guide (One test) these h s a u is after = is
      guide (Unless test) these h s a u is after = is
      guide (Both f x) these h s b u (g, v, a, one, two, same) after =
          let parts = λ (t : Token K). and_parts (tells law.grammar law.hints f (led law.grammar x (these t) t) t) (tells law.grammar law.hints x
          (these t) t) (h t) in (
            g,
            v,
            a,
            guide f (λ t. led law.grammar x (these t) t) (λ t. (parts t).0) s g v one (behind_both x these v u (leads says lead x v a u two) after),
            guide x these (λ t. (parts t).1) v a u two after,
            same,
          )
      guide (Either test x y) these h s a u (inl one) after =
          let next = leads_some x s u (either_tells test x y (these law.hints.any) law.hints.any (h law.hints.any)).2 (leads says lead x s a u one) in
          inl (
            some_passes test (slice_get toks s.at) next.0 next.1 (implied (first law.grammar x next.0) (test next.0)
                (either_tells test x y (these next.0) next.0 (h next.0)).3 next.2),
            guide x these (λ t. (either_tells test x y (these t) t (h t)).0) s a u one after,
          )
      guide (Either test x y) these h s a u (inr two) after =
          inr (
            fails_side test x y these h s u (leads says lead y s a u two) after,
            guide y these (λ t. (either_tells test x y (these t) t (h t)).1) s a
                u two after,
          )
      guide (Chain test x more) these h s b u (a, v, n, one, rest) after =
          let turns = turns_guided test x more these h (λ p g q is. guide more (λ t. first law.grammar more t || these t)
          (λ t. (chain_tells test x more (these t) t (h t)).1) p g q is) n (place_at toks s.at) a v b u rest after in
          (a, v, n, guide x (λ t. first law.grammar more t || these t) (λ t. (chain_tells test x more (these t) t (h t)).0) s a v one turns.1, turns.0)
      guide (Inner n) these h s a u is after =
          inner n s a u is (after_more these (law.hints.follows n) (λ t so. implied (these t) (law.hints.follows n t) (h t) so) (slice_get toks u.at) after)
      guide (Made f) these h s b u (g, v, one, same, to) after =
          (g, v, guide f these h s g v one (subst (λ (w : State G). After these (slice_get toks w.at)) to after), same, to)

    -- and what the tests lead to is spelled
    turns_plain : {A : Type 0} (n : ℕ) (test : Token K → Bool) (goes says : Spelled G (ℕ → A → Growth G A))
        → ((s : State G) (g : ℕ → A → Growth G A) (u : State G) → goes s g u → says s g u)
        → (at : ℕ) (a : A) (s : State G) (b : A) (u : State G) → GuidedTurns toks n test goes at a s b u → Turns toks n says at a s b u
    turns_plain zero test goes says h at a s b u (unless, same, to) = (same, to)
    turns_plain (suc n) test goes says h at a s b u (so, g, v, one, rest) = (
      g,
      v,
      h s g v one,
      turns_plain n test goes says h at (g at a v.tree).0 (record v { tree = (g at a v.tree).1 }) b u rest,
    )

    pub plain : (goes says : N → Spelled G ℕ) → ((n : N) (s : State G) (a : ℕ) (u : State G) → goes n s a u → says n s a u)
        → {A : Type 0} (f : Form K N G A) (s : State G) (a : A) (u : State G) → guided_with toks goes f s a u → spelled_with toks says f s a u
    plain goes says h (Plain b) s a u is = is
    plain goes says h Place s a u is = is
    plain goes says h (One test) s a u is = is
    plain goes says h (Unless test) s a u is = is
    plain goes says h (Both f x) s b u (g, v, a, one, two, same) = (g, v, a, plain goes says h f s g v one, plain goes says h x v a u two, same)
    plain goes says h (Either test x y) s a u (inl (so, is)) = inl (plain goes says h x s a u is)
    plain goes says h (Either test x y) s a u (inr (unless, is)) = inr (plain goes says h y s a u is)
    plain goes says h (Chain test x more) s b u (a, v, n, one, rest) = (
      a,
      v,
      n,
      plain goes says h x s a v one,
      turns_plain n test (guided_with toks goes more) (spelled_with toks says more)
          (λ p g q is. plain goes says h more p g q is) (place_at toks s.at) a v b u rest,
    )
    plain goes says h (Inner n) s a u is = h n s a u is
    plain goes says h (Made f) s b u (g, v, one, same, to) = (g, v, plain goes says h f s g v one, same, to)
