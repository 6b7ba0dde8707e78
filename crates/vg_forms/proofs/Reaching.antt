-- Constructs that the grammar comes to, with the tests of its forms and without.
use Rattle.std.proofs.Common.{◌≡◌, ◌∙◌, inl, inr, ℕ, zero, suc, Bool, true, false, List, slice_get, Option, Some, None, refl, sym, ap}
use Rattle.std.specs.Prelude.{◌&&◌, ◌||◌, not}
use Rattle.std.proofs.lemmas.Bool.{and_parts}
use Rattle.vg_forms.specs.Forms.{Form, Plain, Place, One, Unless, Both, Either, Chain, Inner, Made, Growth}
use Rattle.vg_forms.specs.Places.{State, place_at, passes}
use Rattle.vg_forms.specs.Spelling.{Spelled, spelled_with, spelled_inner, start}
use Rattle.vg_forms.specs.Guided.{guided_with, guided_inner, GuidedTurnsTo, comes_guided, opens_guided, OpensGuided}
use Rattle.vg_forms.specs.Refusals.{TurnsTo, comes_with, opens_inner, Opens}
use Rattle.vg_forms.proofs.Checks.{eats}
use Rattle.vg_forms.proofs.Checks.{first, led, tells}
use Rattle.vg_forms.proofs.Choices.{implied, and_both, not_of, or_left, or_right, After, after_at, some_passes}
use Rattle.vg_forms.proofs.Choices.{some_fails, either_tells, chain_tells, led_first, Leads, Leading, leads, leads_some, guide, plain}
use Rattle.vg_forms.proofs.Telling.{inner_leads, inner_guided, inner_plain}
use Rattle.vg_forms.specs.declared.token.Token.{Token}
use Rattle.vg_forms.proofs.Checks.{Law}

module _ {K N G : Type 0} (law : Law K N G) where
  passes_some : (test : Token K → Bool) (o : Option (Token K)) → passes test o ≡ true → (t : Token K) × (o ≡ Some t) × (test t ≡ true)
  passes_some test None is = absurd (cc)
  passes_some test (Some t) is = (t, refl, is)

  module _ (toks : List (Token K)) where
    -- a construct begins with the next token
    abbrev Begun : (N → State G → Type 0) → Type 0
    Begun opens = (n : N) (s : State G) → opens n s → (t : Token K) × (slice_get toks s.at ≡ Some t) × (law.grammar.begins n t ≡ true)

    abbrev First : {A : Type 0} → Form K N G A → State G → Type 0
    First f s = (t : Token K) × (slice_get toks s.at ≡ Some t) × (first law.grammar f t ≡ true)

    first_both : {A B : Type 0} (f : Form K N G (A → B)) (x : Form K N G A) (s u : State G) → Leads law toks f s u → First x u → First (Both f x) s
    first_both f x s u (inr (t, found, is)) next = (t, found, or_left (first law.grammar f t) (not (eats f) && first law.grammar x t) is)
    first_both f x s u (inl (here, none, bar)) (t, found, is) = (
      t,
      ap (λ n. slice_get toks n) (sym here) ∙ found,
      or_right (first law.grammar f t) (not (eats f) && first law.grammar x t)
          (and_both (not (eats f)) (first law.grammar x t) (not_of (eats f) none) is),
    )

    first_chain : {A : Type 0} (test : Token K → Bool) (x : Form K N G A) (more : Form K N G (ℕ → A → Growth G A)) (s u : State G)
        → Leads law toks x s u → First more u
        → First (Chain test x more) s
    first_chain test x more s u (inr (t, found, is)) next = (t, found, or_left (first law.grammar x t) (not (eats x) && first law.grammar more t) is)
    first_chain test x more s u (inl (here, none, bar)) (t, found, is) = (
      t,
      ap (λ n. slice_get toks n) (sym here) ∙ found,
      or_right (first law.grammar x t) (not (eats x) && first law.grammar more t)
          (and_both (not (eats x)) (first law.grammar more t) (not_of (eats x) none) is),
    )

    first_turns : {A : Type 0} (more : Form K N G (ℕ → A → Growth G A)) (says : Spelled G (ℕ → A → Growth G A)) (comes : State G → Type 0)
        → ((s : State G) (g : ℕ → A → Growth G A) (u : State G) → says s g u → Leads law toks more s u)
        → ((s : State G) → comes s → First more s) → (n at : ℕ) (a : A) (s : State G) → TurnsTo toks n says comes at a s → First more s
    first_turns more says comes h k zero at a s is = k s is
    first_turns more says comes h k (suc n) at a s (g, u, one, rest) = elim (h s g u one) [
      | inr next ↦ next
      | inl stays ↦
          let later = first_turns more says comes h k n at (g at a u.tree).0 (record u { tree = (g at a u.tree).1 }) rest in
          (later.0, ap (λ m. slice_get toks m) (sym stays.0) ∙ later.1, later.2)
    ]

    comes_first : (says : N → Spelled G ℕ) → Leading law toks says → (opens : N → State G → Type 0) → Begun opens
        → {A : Type 0} (f : Form K N G A) (s : State G) → comes_with toks says opens f s → First f s
    comes_first says lead opens h (Plain a) s is = absurd is
    comes_first says lead opens h Place s is = absurd is
    comes_first says lead opens h (One test) s is = absurd is
    comes_first says lead opens h (Unless test) s is = absurd is
    comes_first says lead opens h (Both f x) s (inl is) = let next = comes_first says lead opens h f s is in
        (next.0, next.1, or_left (first law.grammar f next.0) (not (eats f) && first law.grammar x next.0) next.2)
    comes_first says lead opens h (Both f x) s (inr (g, u, one, is)) = first_both f x s u (leads law toks says lead f s g u one)
        (comes_first says lead opens h x u is)
    comes_first says lead opens h (Either test x y) s (inl is) = let next = comes_first says lead opens h x s is in
        (next.0, next.1, or_left (first law.grammar x next.0) (first law.grammar y next.0) next.2)
    comes_first says lead opens h (Either test x y) s (inr is) = let next = comes_first says lead opens h y s is in
        (next.0, next.1, or_right (first law.grammar x next.0) (first law.grammar y next.0) next.2)
    comes_first says lead opens h (Chain test x more) s (inl is) = let next = comes_first says lead opens h x s is in
        (next.0, next.1, or_left (first law.grammar x next.0) (not (eats x) && first law.grammar more next.0) next.2)
    comes_first says lead opens h (Chain test x more) s (inr (a, u, n, one, rest)) =
        first_chain test x more s u (leads law toks says lead x s a u one)
        (first_turns more (spelled_with toks says more) (comes_with toks says opens more) (λ p g q is. leads law toks says lead more p g q is)
        (λ p is. comes_first says lead opens h more p is) n (place_at toks s.at) a u rest)
    comes_first says lead opens h (Inner n) s is = h n s is
    comes_first says lead opens h (Made f) s is = comes_first says lead opens h f s is

    module _ (says goes : N → Spelled G ℕ) (lead : Leading law toks says) (inner : (n : N) (s : State G) (a : ℕ) (u : State G) → says n s a u
        → After law (law.hints.follows n) (slice_get toks u.at) → goes n s a u)
        (opens gone : N → State G → Type 0) (begun : Begun opens) (enter : (n : N) (s : State G) → opens n s → gone n s) where
      turns_to : {A : Type 0} (test : Token K → Bool) (x : Form K N G A) (more : Form K N G (ℕ → A → Growth G A)) (these : Token K → Bool)
          → ((t : Token K) → tells law.grammar law.hints (Chain test x more) (these t) t ≡ true)
          → ((s : State G) → comes_with toks says opens more s → comes_guided toks goes (λ u. ⊥) gone more s)
          → (n at : ℕ) (a : A) (s : State G) → TurnsTo toks n (spelled_with toks says more) (comes_with toks says opens more) at a s
          → GuidedTurnsTo toks n test (guided_with toks goes more) (comes_guided toks goes (λ u. ⊥) gone more) at a s
          × After law (λ t. first law.grammar more t || these t) (slice_get toks s.at)
      turns_to test x more these h each zero at a s is =
          let next = comes_first says lead opens begun more s is in (
            (
              some_passes law test (slice_get toks s.at) next.0 next.1 (implied (first law.grammar more next.0) (test next.0)
                  (chain_tells law test x more (these next.0) next.0 (h next.0)).3 next.2),
              each s is,
            ),
            after_at law (λ t. first law.grammar more t || these t) (slice_get toks s.at) next.0 next.1 (or_left (first law.grammar more next.0)
                (these next.0) next.2),
          )
      turns_to test x more these h each (suc n) at a s (g, v, one, rest) =
          let later = turns_to test x more these h each n at (g at a v.tree).0 (record v { tree = (g at a v.tree).1 }) rest in
          let next = leads_some law toks more s v (chain_tells law test x more (these law.hints.any) law.hints.any (h law.hints.any)).2
          (leads law toks says lead more s g v one) in (
            (
              some_passes law test (slice_get toks s.at) next.0 next.1 (implied (first law.grammar more next.0) (test next.0)
                  (chain_tells law test x more (these next.0) next.0 (h next.0)).3 next.2),
              g,
              v,
              guide law toks says goes lead inner more (λ t. first law.grammar more t || these t) (λ t. (chain_tells law test x more (these t) t
                  (h t)).1) s g v one later.1,
              later.0,
            ),
            after_at law (λ t. first law.grammar more t || these t) (slice_get toks s.at) next.0 next.1 (or_left (first law.grammar more next.0)
                (these next.0) next.2),
          )

      -- where the grammar comes, the tests lead
      come : {A : Type 0} (f : Form K N G A) (these : Token K → Bool) → ((t : Token K) → tells law.grammar law.hints f (these t) t ≡ true) →
          (s : State G)
          → comes_with toks says opens f s → comes_guided toks goes (λ u. ⊥) gone f s
      come (Plain a) these h s is = absurd is
      come Place these h s is = absurd is
      come (One test) these h s is = absurd is
      come (Unless test) these h s is = absurd is
      come (Both f x) these h s (inl is) =
          inl (come f (λ t. led law.grammar x (these t) t) (λ t. (and_parts (tells law.grammar law.hints f (led law.grammar x (these t) t) t)
          (tells law.grammar law.hints x (these t) t) (h t)).0) s is)
      come (Both f x) these h s (inr (g, u, one, is)) =
          let next = comes_first says lead opens begun x u is in
          inr (
            g,
            u,
            guide law toks says goes lead inner f (λ t. led law.grammar x (these t) t) (λ t. (and_parts (tells law.grammar law.hints f
                (led law.grammar x (these t) t) t) (tells law.grammar law.hints x (these t) t) (h t)).0) s g u one
                (after_at law (λ t. led law.grammar x (these t) t) (slice_get toks u.at) next.0 next.1 (led_first law x (these next.0) next.0 next.2)),
            come x these (λ t. (and_parts (tells law.grammar law.hints f (led law.grammar x (these t) t) t) (tells law.grammar law.hints x
                (these t) t) (h t)).1) u is,
          )
      come (Either test x y) these h s (inl is) =
          let next = comes_first says lead opens begun x s is in
          inl (
            some_passes law test (slice_get toks s.at) next.0 next.1 (implied (first law.grammar x next.0) (test next.0)
                (either_tells law test x y (these next.0) next.0 (h next.0)).3 next.2),
            come x these (λ t. (either_tells law test x y (these t) t (h t)).0) s is,
          )
      come (Either test x y) these h s (inr is) =
          let next = comes_first says lead opens begun y s is in
          inr (
            some_fails law test (slice_get toks s.at) next.0 next.1 (implied (led law.grammar y (these next.0) next.0) (not (test next.0))
                (either_tells law test x y (these next.0) next.0 (h next.0)).4 (led_first law y (these next.0) next.0 next.2)),
            come y these (λ t. (either_tells law test x y (these t) t (h t)).1) s is,
          )
      come (Chain test x more) these h s (inl is) = inl (come x (λ t. first law.grammar more t || these t) (λ t. (chain_tells law test x more
          (these t) t (h t)).0) s is)
      come (Chain test x more) these h s (inr (a, u, n, one, rest)) =
          let turns = turns_to test x more these h (λ p is. come more (λ t. first law.grammar more t || these t)
          (λ t. (chain_tells law test x more (these t) t (h t)).1) p is) n (place_at toks s.at) a u rest in
          inr (
            a,
            u,
            n,
            guide law toks says goes lead inner x (λ t. first law.grammar more t || these t) (λ t. (chain_tells law test x more (these t) t
                (h t)).0) s a u one
                turns.1,
            turns.0,
          )
      come (Inner n) these h s is = enter n s is
      come (Made f) these h s is = come f these h s is

    -- and where the tests lead, the grammar comes
    turns_came : {A : Type 0} (n : ℕ) (test : Token K → Bool) (goes says : Spelled G (ℕ → A → Growth G A)) (one two : State G → Type 0)
        → ((s : State G) (g : ℕ → A → Growth G A) (u : State G) → goes s g u → says s g u) → ((s : State G) → one s → two s)
        → (at : ℕ) (a : A) (s : State G) → GuidedTurnsTo toks n test goes one at a s → TurnsTo toks n says two at a s
    turns_came zero test goes says one two h k at a s (so, is) = k s is
    turns_came (suc n) test goes says one two h k at a s (so, g, u, first_one, rest) = (
      g,
      u,
      h s g u first_one,
      turns_came n test goes says one two h k at (g at a u.tree).0 (record u { tree = (g at a u.tree).1 }) rest,
    )

    came : (goes says : N → Spelled G ℕ) → ((n : N) (s : State G) (a : ℕ) (u : State G) → goes n s a u → says n s a u)
        → (gone opens : N → State G → Type 0) → ((n : N) (s : State G) → gone n s → opens n s)
        → {A : Type 0} (f : Form K N G A) (s : State G) → comes_guided toks goes (λ u. ⊥) gone f s → comes_with toks says opens f s
    came goes says h gone opens k (Plain a) s is = absurd is
    came goes says h gone opens k Place s is = absurd is
    came goes says h gone opens k (One test) s (here, none) = absurd here
    came goes says h gone opens k (Unless test) s (here, so) = absurd here
    came goes says h gone opens k (Both f x) s (inl is) = inl (came goes says h gone opens k f s is)
    came goes says h gone opens k (Both f x) s (inr (g, u, one, is)) = inr
        (g, u, plain law toks goes says h f s g u one, came goes says h gone opens k x u is)
    came goes says h gone opens k (Either test x y) s (inl (so, is)) = inl (came goes says h gone opens k x s is)
    came goes says h gone opens k (Either test x y) s (inr (unless, is)) = inr (came goes says h gone opens k y s is)
    came goes says h gone opens k (Chain test x more) s (inl is) = inl (came goes says h gone opens k x s is)
    came goes says h gone opens k (Chain test x more) s (inr (a, u, n, one, rest)) =
        inr (
          a,
          u,
          n,
          plain law toks goes says h x s a u one,
          turns_came n test (guided_with toks goes more) (spelled_with toks says more) (comes_guided toks goes (λ u. ⊥) gone more)
              (comes_with toks says opens more) (λ p g q is. plain law toks goes says h more p g q is)
              (λ p is. came goes says h gone opens k more p is) (place_at toks s.at) a u rest,
        )
    came goes says h gone opens k (Inner n) s is = k n s is
    came goes says h gone opens k (Made f) s is = came goes says h gone opens k f s is

    module _ (i : ℕ) where
      inner_begun : (room : ℕ) → Begun (opens_inner law.grammar toks i room)
      inner_begun zero n s (here, so) = passes_some (law.grammar.begins n) (slice_get toks s.at) so
      inner_begun (suc room) n s is =
          let next = comes_first (spelled_inner law.grammar toks room) (inner_leads law toks room) (opens_inner law.grammar toks i room)
          (inner_begun room) (law.grammar.form n) s is in
          (next.0, next.1, implied (first law.grammar (law.grammar.form n) next.0) (law.grammar.begins n next.0) (law.form_begins n next.0) next.2)

      inner_opens : (room : ℕ) (n : N) (s : State G) → opens_inner law.grammar toks i room n s → opens_guided law.grammar toks i room n s
      inner_opens zero n s is = is
      inner_opens (suc room) n s is =
          let next = inner_begun (suc room) n s is in (
            some_passes law (law.grammar.begins n) (slice_get toks s.at) next.0 next.1 next.2,
            come (spelled_inner law.grammar toks room) (guided_inner law.grammar toks room) (inner_leads law toks room) (inner_guided law toks room)
                (opens_inner law.grammar toks i room)
                (opens_guided law.grammar toks i room) (inner_begun room) (inner_opens room) (law.grammar.form n) (law.hints.follows n)
                (law.form_tells n) s is,
          )

      pub opens_so : (room : ℕ) → Opens law.grammar room toks i → OpensGuided law.grammar room toks i
      opens_so room is =
          come (spelled_inner law.grammar toks room) (guided_inner law.grammar toks room) (inner_leads law toks room) (inner_guided law toks room)
          (opens_inner law.grammar toks i room)
          (opens_guided law.grammar toks i room) (inner_begun room) (inner_opens room) law.grammar.unit (λ t. false) law.unit_tells (start law.grammar) is

      inner_opened : (room : ℕ) (n : N) (s : State G) → opens_guided law.grammar toks i room n s → opens_inner law.grammar toks i room n s
      inner_opened zero n s is = is
      inner_opened (suc room) n s (so, is) = came (guided_inner law.grammar toks room) (spelled_inner law.grammar toks room)
          (inner_plain law toks room) (opens_guided law.grammar toks i room)
          (opens_inner law.grammar toks i room) (inner_opened room) (law.grammar.form n) s is

      pub opened_so : (room : ℕ) → OpensGuided law.grammar room toks i → Opens law.grammar room toks i
      opened_so room is = came (guided_inner law.grammar toks room) (spelled_inner law.grammar toks room) (inner_plain law toks room)
          (opens_guided law.grammar toks i room)
          (opens_inner law.grammar toks i room) (inner_opened room) law.grammar.unit (start law.grammar) is
