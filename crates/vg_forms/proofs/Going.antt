-- What is spelled of another text: forms along its tokens, and what the first tokens of a text spell in any text that begins so.
use Rattle.std.proofs.Common.{◌≡◌, ◌∙◌, ◌≤◌, ◌+◌, ◌⊎◌, inl, inr, ℕ, zero, suc, Bool, true, false, List, [], ◌∷◌, ◌++◌, length, slice_get, Option}
use Rattle.std.proofs.Common.{Some, None, refl, sym, ap, subst, arith, length-append}
use Rattle.std.specs.Prelude.{◌&&◌, ◌||◌, not, cond, is_some}
use Rattle.std.proofs.lemmas.Bool.{and_parts, not-true}
use Rattle.vg_forms.specs.Forms.{Form, Plain, Place, One, Unless, Both, Either, Chain, Inner, Made, Growth}
use Rattle.vg_forms.specs.Places.{State, place_at, passes}
use Rattle.vg_forms.specs.Spelling.{Spelled}
use Rattle.vg_forms.specs.Guided.{GuidedTurns, guided_with, guided_inner}
use Rattle.vg_forms.proofs.Checks.{eats}
use Rattle.vg_forms.proofs.Onward.{further, further-both, further-first, further-second, further-more, further-least}
use Rattle.vg_forms.proofs.Checks.{first_passing, whole, stops, leads, is_empty, fits, calls}
use Rattle.vg_forms.specs.declared.token.Token.{Token}
use Rattle.vg_forms.proofs.Checks.{Law}

pub bool_cases : (b : Bool) → (b ≡ true) ⊎ (b ≡ false)
bool_cases true = inl refl
bool_cases false = inr refl

pub some_of : {A : Type 0} (o : Option A) → is_some o ≡ true → (a : A) × (o ≡ Some a)
some_of None is = absurd (cc)
some_of (Some a) is = (a, refl)

module _ {K N G : Type 0} (law : Law K N G) where
  -- a form ends before the next token, or where there is none
  abbrev pub halts : {A : Type 0} → Form K N G A → Option (Token K) → Bool
  halts f None = true
  halts f (Some t) = stops law.hints f t

  pub halts_none : (test : Token K → Bool) (o : Option (Token K)) → halts (Unless test) o ≡ true → passes test o ≡ false
  halts_none test None is = refl
  halts_none test (Some t) is = not-true (test t) is

  pub halts_second : {A B : Type 0} (f : Form K N G (A → B)) (x : Form K N G A) (o : Option (Token K)) → halts (Both f x) o ≡ true → halts x o
      ≡ true
  halts_second f x None is = refl
  halts_second f x (Some t) is = (and_parts (stops law.hints x t) (eats x || stops law.hints f t) is).0

  pub halts_both : {A B : Type 0} (f : Form K N G (A → B)) (x : Form K N G A) (o : Option (Token K)) → eats x ≡ false → halts (Both f x) o
      ≡ true → halts f o ≡ true
  halts_both f x None none is = refl
  halts_both f x (Some t) none is = subst (λ b. (b || stops law.hints f t) ≡ true) none (and_parts (stops law.hints x t)
      (eats x || stops law.hints f t) is).1

  pub halts_left : {A : Type 0} (test : Token K → Bool) (x y : Form K N G A) (o : Option (Token K)) → halts (Either test x y) o ≡ true
      → halts x o ≡ true
  halts_left test x y None is = refl
  halts_left test x y (Some t) is = (and_parts (stops law.hints x t) (stops law.hints y t) (and_parts (stops law.hints x t && stops law.hints y t)
      (eats y || not (test t)) is).0).0

  pub halts_right : {A : Type 0} (test : Token K → Bool) (x y : Form K N G A) (o : Option (Token K)) → halts (Either test x y) o ≡ true
      → halts y o ≡ true
  halts_right test x y None is = refl
  halts_right test x y (Some t) is = (and_parts (stops law.hints x t) (stops law.hints y t) (and_parts (stops law.hints x t && stops law.hints y t)
      (eats y || not (test t)) is).0).1

  pub halts_side : {A : Type 0} (test : Token K → Bool) (x y : Form K N G A) (o : Option (Token K)) → eats y ≡ false → halts
      (Either test x y) o ≡ true
      → passes test o ≡ false
  halts_side test x y None none is = refl
  halts_side test x y (Some t) none is =
      not-true (test t) (subst (λ b. (b || not (test t)) ≡ true) none (and_parts (stops law.hints x t && stops law.hints y t) (eats y || not
      (test t)) is).1)

  pub halts_first : {A : Type 0} (test : Token K → Bool) (x : Form K N G A) (more : Form K N G (ℕ → A → Growth G A)) (o : Option (Token K))
      → halts (Chain test x more) o ≡ true → halts x o ≡ true
  halts_first test x more None is = refl
  halts_first test x more (Some t) is = (and_parts (stops law.hints x t) (stops law.hints more t) (and_parts
      (stops law.hints x t && stops law.hints more t) (not (test t)) is).0).0

  pub halts_more : {A : Type 0} (test : Token K → Bool) (x : Form K N G A) (more : Form K N G (ℕ → A → Growth G A)) (o : Option (Token K))
      → halts (Chain test x more) o ≡ true → halts more o ≡ true
  halts_more test x more None is = refl
  halts_more test x more (Some t) is = (and_parts (stops law.hints x t) (stops law.hints more t) (and_parts
      (stops law.hints x t && stops law.hints more t) (not (test t)) is).0).1

  pub halts_test : {A : Type 0} (test : Token K → Bool) (x : Form K N G A) (more : Form K N G (ℕ → A → Growth G A)) (o : Option (Token K))
      → halts (Chain test x more) o ≡ true → passes test o ≡ false
  halts_test test x more None is = refl
  halts_test test x more (Some t) is = not-true (test t) (and_parts (stops law.hints x t && stops law.hints more t) (not (test t)) is).1

  pub halts_form : (n : N) (o : Option (Token K)) → halts (Inner n) o ≡ true → halts (law.grammar.form n) o ≡ true
  halts_form n None is = refl
  halts_form n (Some t) is = law.form_stops n t is

  -- what fits
  pub fits_both : {A B : Type 0} (f : Form K N G (A → B)) (x : Form K N G A) → fits law.hints (Both f x) ≡ true → (fits law.hints f ≡ true)
      × (fits law.hints x ≡ true)
      × (cond (eats x) (leads (stops law.hints f) (whole law.hints x)) (is_empty (whole law.hints x)) ≡ true)
  fits_both f x is =
      let parts = and_parts (fits law.hints f && fits law.hints x) (cond (eats x) (leads (stops law.hints f) (whole law.hints x)) (is_empty
      (whole law.hints x))) is in
      let two = and_parts (fits law.hints f) (fits law.hints x) parts.0 in
      (two.0, two.1, parts.1)

  pub fits_either : {A : Type 0} (test : Token K → Bool) (x y : Form K N G A) → fits law.hints (Either test x y) ≡ true
      → (fits law.hints x ≡ true) × (fits law.hints y ≡ true) × (eats x ≡ true) × (cond (eats y) (leads (λ t. not (test t))
      (whole law.hints y)) (is_empty (whole law.hints y)) ≡ true)
  fits_either test x y is =
      let parts = and_parts (fits law.hints x && fits law.hints y && eats x) (cond (eats y) (leads (λ t. not (test t)) (whole law.hints y)) (is_empty
      (whole law.hints y))) is in
      let three = and_parts (fits law.hints x && fits law.hints y) (eats x) parts.0 in
      let two = and_parts (fits law.hints x) (fits law.hints y) three.0 in
      (two.0, two.1, three.1, parts.1)

  pub fits_chain : {A : Type 0} (test : Token K → Bool) (x : Form K N G A) (more : Form K N G (ℕ → A → Growth G A)) → fits law.hints
      (Chain test x more) ≡ true → (fits law.hints x ≡ true)
      × (fits law.hints more ≡ true) × (eats more ≡ true)
  fits_chain test x more is =
      let parts = and_parts (fits law.hints x && fits law.hints more) (eats more) is in
      let two = and_parts (fits law.hints x) (fits law.hints more) parts.0 in
      (two.0, two.1, parts.1)

  no_tokens : (ts : List (Token K)) → is_empty ts ≡ true → ts ≡ []
  no_tokens [] is = refl
  no_tokens (t ∷ ts) is = absurd (cc)

  passing : (test : Token K → Bool) (ts : List (Token K)) → leads test (first_passing test ts) ≡ true → (t : Token K) ×
      (first_passing test ts ≡ t ∷ []) × (test t ≡ true)
  passing test [] is = absurd (cc)
  passing test (t ∷ ts) is = elim (bool_cases (test t)) [
    | inl so ↦ (t, ap (λ b. cond b (t ∷ []) (first_passing test ts)) so, so)
    | inr unless ↦
        let same : first_passing test (t ∷ ts) ≡ first_passing test ts = ap (λ b. cond b (t ∷ []) (first_passing test ts)) unless in
        let rest = passing test ts (sym (ap (leads test) same) ∙ is) in
        (rest.0, same ∙ rest.1, rest.2)
  ]

  -- what is spelled goes onward
  module _ (toks : List (Token K)) where
    pub turns_gain : {A : Type 0} (n : ℕ) (test : Token K → Bool) (says : Spelled G (ℕ → A → Growth G A))
        → ((s : State G) (g : ℕ → A → Growth G A) (t : State G) → says s g t → s.at ≤ t.at)
        → (at : ℕ) (a : A) (s : State G) (b : A) (t : State G) → GuidedTurns toks n test says at a s b t → s.at ≤ t.at
    turns_gain zero test says h at a s b t (unless, same, to) = subst (λ (u : State G). s.at ≤ u.at) (sym to) (omega arith)
    turns_gain (suc n) test says h at a s b t (so, g, u, one, rest) =
        omega (arith, h s g u one, turns_gain n test says h at (g at a u.tree).0 (record u { tree = (g at a u.tree).1 }) b t rest)

    abbrev pub Gaining : (N → Spelled G ℕ) → Type 0
    Gaining says = (n : N) (s : State G) (a : ℕ) (t : State G) → says n s a t → s.at + 1 ≤ t.at

    pub spelled_gains : (says : N → Spelled G ℕ) → Gaining says → {A : Type 0} (f : Form K N G A) (s : State G) (a : A) (t : State G)
        → guided_with toks says f s a t → further (eats f) s.at ≤ t.at
    spelled_gains says h (Plain b) s a t (same, to) = subst (λ (u : State G). s.at ≤ u.at) (sym to) (omega arith)
    spelled_gains says h Place s a t (same, to) = subst (λ (u : State G). s.at ≤ u.at) (sym to) (omega arith)
    spelled_gains says h (One test) s a t (x, found, is, to) = subst (λ (u : State G). s.at + 1 ≤ u.at) (sym to) (omega arith)
    spelled_gains says h (Unless test) s a t (unless, to) = subst (λ (u : State G). s.at ≤ u.at) (sym to) (omega arith)
    spelled_gains says h (Both f x) s b t (g, u, a, one, two, same) = further-both (eats f) (eats x) s.at u.at t.at (spelled_gains says h f s g u one)
        (spelled_gains says h x u a t two)
    spelled_gains says h (Either test x y) s a t (inl (so, one)) = further-first (eats x) (eats y) s.at t.at (spelled_gains says h x s a t one)
    spelled_gains says h (Either test x y) s a t (inr (unless, two)) = further-second (eats x) (eats y) s.at t.at (spelled_gains says h y s a t two)
    spelled_gains says h (Chain test x more) s b t (a, u, n, one, rest) =
        further-more (eats x) s.at u.at t.at (spelled_gains says h x s a u one)
        (turns_gain n test (guided_with toks says more) (λ v g w is. further-least (eats more) v.at w.at (spelled_gains says h more v g w is))
        (place_at toks s.at) a u b t rest)
    spelled_gains says h (Inner n) s a t is = h n s a t is
    spelled_gains says h (Made f) s a t (g, u, one, same, to) = subst (λ (v : State G). further (eats f) s.at ≤ v.at) (sym to)
        (spelled_gains says h f s g u one)

  -- a form spelled from one place to another, whatever tree stands there
  module _ (all : List (Token K)) where
    abbrev pub Goes : {A : Type 0} → (N → Spelled G ℕ) → Form K N G A → ℕ → ℕ → Type 0
    Goes {A} says f i j = (s : State G) → s.at ≡ i → (a : A) × (t : State G) × guided_with all says f s a t × (t.at ≡ j)

    pub ends : {A : Type 0} (says : N → Spelled G ℕ) (f : Form K N G A) (i j k : ℕ) → j ≡ k → Goes says f i j → Goes says f i k
    ends says f i j k same h = subst (λ n. Goes says f i n) same h

    pub begins_at : {A : Type 0} (says : N → Spelled G ℕ) (f : Form K N G A) (h i j : ℕ) → h ≡ i → Goes says f h j → Goes says f i j
    begins_at says f h i j same g = subst (λ n. Goes says f n j) same g

    pub goes_one : {A : Type 0} (says : N → Spelled G ℕ) (test : Token K → Option A) (i : ℕ) (x : Token K) → slice_get all i ≡ Some x
        → is_some (test x) ≡ true → Goes says (One test) i (i + 1)
    goes_one says test i x found so = λ s e.
        let v = some_of (test x) so in
        (v.0, record s { at = s.at + 1 }, (x, ap (λ n. slice_get all n) e ∙ found, v.1, refl), ap (λ n. n + 1) e)

    pub goes_none : (says : N → Spelled G ℕ) (test : Token K → Bool) (i : ℕ) → passes test (slice_get all i) ≡ false → Goes says
        (Unless test) i i
    goes_none says test i unless = λ s e. (tt, s, (ap (λ n. passes test (slice_get all n)) e ∙ unless, refl), e)

    pub goes_both : {A B : Type 0} (says : N → Spelled G ℕ) (f : Form K N G (A → B)) (x : Form K N G A) (i j k : ℕ) → Goes says f i j
        → Goes says x j k
        → Goes says (Both f x) i k
    goes_both says f x i j k one two = λ s e.
        let p = one s e in
        let q = two p.1 p.3 in
        (p.0 q.0, q.1, (p.0, p.1, q.0, p.2, q.2, refl), q.3)

    pub goes_left : {A : Type 0} (says : N → Spelled G ℕ) (test : Token K → Bool) (x y : Form K N G A) (i j : ℕ) → passes test
        (slice_get all i) ≡ true
        → Goes says x i j → Goes says (Either test x y) i j
    goes_left says test x y i j so one = λ s e.
        let p = one s e in
        (p.0, p.1, inl (ap (λ n. passes test (slice_get all n)) e ∙ so, p.2), p.3)

    pub goes_right : {A : Type 0} (says : N → Spelled G ℕ) (test : Token K → Bool) (x y : Form K N G A) (i j : ℕ) → passes test
        (slice_get all i) ≡ false
        → Goes says y i j → Goes says (Either test x y) i j
    goes_right says test x y i j unless two = λ s e.
        let p = two s e in
        (p.0, p.1, inr (ap (λ n. passes test (slice_get all n)) e ∙ unless, p.2), p.3)

    pub goes_made : {A : Type 0} (says : N → Spelled G ℕ) (f : Form K N G (Growth G A)) (i j : ℕ) → Goes says f i j → Goes says (Made f) i j
    goes_made says f i j one = λ s e.
        let p = one s e in
        ((p.0 p.1.tree).0, record p.1 { tree = (p.0 p.1.tree).1 }, (p.0, p.1, p.2, refl, refl), p.3)

    pub goes_form : (room : ℕ) (n : N) (i j : ℕ) → passes (law.grammar.begins n) (slice_get all i) ≡ true → Goes
        (guided_inner law.grammar all room) (law.grammar.form n) i j
        → Goes (guided_inner law.grammar all (suc room)) (Inner n) i j
    goes_form room n i j so one = λ s e.
        let p = one s e in
        (p.0, p.1, (ap (λ m. passes (law.grammar.begins n) (slice_get all m)) e ∙ so, p.2), p.3)

    -- turns of a chain
    abbrev pub Rounds : {A : Type 0} → (N → Spelled G ℕ) → ℕ → (Token K → Bool) → Form K N G (ℕ → A → Growth G A) → ℕ
        → ℕ → Type 0
    Rounds says zero test more i j = (passes test (slice_get all i) ≡ false) × (j ≡ i)
    Rounds says (suc n) test more i j = (passes test (slice_get all i) ≡ true) × (m : ℕ) × Goes says more i m × Rounds says n test more m j

    rounds_turn : {A : Type 0} (says : N → Spelled G ℕ) (n : ℕ) (test : Token K → Bool) (more : Form K N G (ℕ → A → Growth G A))
        (i j : ℕ) → Rounds says n test more i j
        → (at : ℕ) (a : A) (s : State G) → s.at ≡ i → (b : A) × (t : State G) × GuidedTurns all n test
        (guided_with all says more) at a s b t × (t.at ≡ j)
    rounds_turn says zero test more i j (unless, same) at a s e = (a, s, (ap (λ n. passes test (slice_get all n)) e ∙ unless, refl, refl), e ∙ sym same)
    rounds_turn says (suc n) test more i j (so, m, one, rest) at a s e =
        let p = one s e in
        let q = rounds_turn says n test more m j rest at (p.0 at a p.1.tree).0 (record p.1 { tree = (p.0 at a p.1.tree).1 }) p.3 in
        (q.0, q.1, (ap (λ n. passes test (slice_get all n)) e ∙ so, p.0, p.1, p.2, q.2), q.3)

    pub goes_chain : {A : Type 0} (says : N → Spelled G ℕ) (n : ℕ) (test : Token K → Bool) (x : Form K N G A) (more : Form K N G (ℕ → A
        → Growth G A)) (i j k : ℕ)
        → Goes says x i j → Rounds says n test more j k → Goes says (Chain test x more) i k
    goes_chain says n test x more i j k one rest = λ s e.
        let p = one s e in
        let q = rounds_turn says n test more j k rest (place_at all s.at) p.0 p.1 p.3 in
        (q.0, q.1, (p.0, p.1, n, p.2, q.2), q.3)

    -- these tokens stand from a place on
    abbrev pub Stands : ℕ → List (Token K) → Type 0
    Stands i [] = Unit {0}
    Stands i (t ∷ ts) = (slice_get all i ≡ Some t) × Stands (i + 1) ts

    pub stands_front : (xs ys : List (Token K)) (i : ℕ) → Stands i (xs ++ ys) → Stands i xs
    stands_front [] ys i h = tt
    stands_front (x ∷ xs) ys i h = (h.0, stands_front xs ys (i + 1) h.1)

    pub stands_back : (xs ys : List (Token K)) (i : ℕ) → Stands i (xs ++ ys) → Stands (i + length xs) ys
    stands_back [] ys i h = let same : i ≡ i + 0 = omega arith in subst (λ n. Stands n ys) same h
    stands_back (x ∷ xs) ys i h = let same : i + 1 + length xs ≡ i + suc (length xs) = omega arith in
        subst (λ n. Stands n ys) same (stands_back xs ys (i + 1) h.1)

    leads_at : (p : Token K → Bool) (ts : List (Token K)) (i : ℕ) → Stands i ts → leads p ts ≡ true → (t : Token K) × (slice_get all i
        ≡ Some t) × (p t ≡ true)
    leads_at p [] i h is = absurd (cc)
    leads_at p (t ∷ ts) i h is = (t, h.0, is)

    -- where a form may end before the spelling of the one behind it
    pub both_end : {A B : Type 0} (f : Form K N G (A → B)) (x : Form K N G A) (i k : ℕ) → k ≡ i + length (whole law.hints x)
        → fits law.hints (Both f x) ≡ true → Stands i (whole law.hints x)
        → halts (Both f x) (slice_get all k) ≡ true → halts f (slice_get all i) ≡ true
    both_end f x i k far fit h is = elim (bool_cases (eats x)) [
      | inl so ↦
          let first = leads_at (stops law.hints f) (whole law.hints x) i h (sym (ap (λ b. cond b (leads (stops law.hints f) (whole law.hints x))
          (is_empty (whole law.hints x))) so) ∙ (fits_both f x fit).2) in
          ap (halts f) first.1 ∙ first.2
      | inr unless ↦
          let none = no_tokens (whole law.hints x) (sym (ap (λ b. cond b (leads (stops law.hints f) (whole law.hints x)) (is_empty
          (whole law.hints x))) unless) ∙ (fits_both f x fit).2) in
          let here : k ≡ i = omega (arith, far, ap length none) in
          ap (λ n. halts f (slice_get all n)) (sym here) ∙ halts_both f x (slice_get all k) unless is
    ]

    either_end : {A : Type 0} (test : Token K → Bool) (x y : Form K N G A) (i k : ℕ) → k ≡ i + length (whole law.hints y) → fits law.hints
        (Either test x y) ≡ true
        → Stands i (whole law.hints y) → halts (Either test x y) (slice_get all k) ≡ true → passes test (slice_get all i) ≡ false
    either_end test x y i k far fit h is = elim (bool_cases (eats y)) [
      | inl so ↦
          let first = leads_at (λ t. not (test t)) (whole law.hints y) i h (sym (ap (λ b. cond b (leads (λ t. not (test t)) (whole law.hints y))
          (is_empty (whole law.hints y))) so)
          ∙ (fits_either test x y fit).3) in
          ap (passes test) first.1 ∙ not-true (test first.0) first.2
      | inr unless ↦
          let none = no_tokens (whole law.hints y) (sym (ap (λ b. cond b (leads (λ t. not (test t)) (whole law.hints y)) (is_empty
          (whole law.hints y))) unless)
          ∙ (fits_either test x y fit).3) in
          let here : k ≡ i = omega (arith, far, ap length none) in
          ap (λ n. passes test (slice_get all n)) (sym here) ∙ halts_side test x y (slice_get all k) unless is
    ]

    -- the shortest spelling of a form is spelled, where a token stands behind it before which the form ends
    abbrev pub Ready : (N → Bool) → (N → Spelled G ℕ) → Type 0
    Ready ready says = (n : N) → ready n ≡ true → (i : ℕ) → Stands i (law.hints.whole_inner n) → halts (Inner n) (slice_get all
        (i + length (law.hints.whole_inner n)))
        ≡ true → Goes says (Inner n) i (i + length (law.hints.whole_inner n))

    pub shortest : (ready : N → Bool) (says : N → Spelled G ℕ) → Ready ready says → {A : Type 0} (f : Form K N G A) → fits law.hints f
        ≡ true → calls ready f ≡ true
        → (i k : ℕ) → k ≡ i + length (whole law.hints f) → Stands i (whole law.hints f) → halts f (slice_get all k) ≡ true → Goes says f i k
    shortest ready says h (Plain a) fit call i k far stand is = λ s e. (a, s, (refl, refl), omega (arith, e, far))
    shortest ready says h Place fit call i k far stand is = λ s e. (place_at all s.at, s, (refl, refl), omega (arith, e, far))
    shortest ready says h (One test) fit call i k far stand is =
        let first = passing (λ t. is_some (test t)) law.hints.samples fit in
        let here = subst (λ ts. Stands i ts) first.1 stand in
        ends says (One test) i (i + 1) k (omega (arith, far, ap length first.1)) (goes_one says test i first.0 here.0 first.2)
    shortest ready says h (Unless test) fit call i k far stand is =
        let here : k ≡ i = omega (arith, far) in
        ends says (Unless test) i i k (sym here) (goes_none says test i (ap (λ n. passes test (slice_get all n)) (sym here)
        ∙ halts_none test (slice_get all k) is))
    shortest ready says h (Both f x) fit call i k far stand is =
        let parts = fits_both f x fit in
        let called = and_parts (calls ready f) (calls ready x) call in
        let j = i + length (whole law.hints f) in
        let last : k ≡ j + length (whole law.hints x) = omega (arith, far, length-append (whole law.hints f) (whole law.hints x)) in
        let behind = stands_back (whole law.hints f) (whole law.hints x) i stand in
        goes_both says f x i j k (shortest ready says h f parts.0 called.0 i j refl (stands_front (whole law.hints f) (whole law.hints x) i stand)
        (both_end f x j k last fit behind is))
        (shortest ready says h x parts.1 called.1 j k last behind (halts_second f x (slice_get all k) is))
    shortest ready says h (Either test x y) fit call i k far stand is =
        goes_right says test x y i k (either_end test x y i k far fit stand is) (shortest ready says h y (fits_either test x y fit).1 call i k far stand
        (halts_right test x y (slice_get all k) is))
    shortest ready says h (Chain test x more) fit call i k far stand is =
        goes_chain says 0 test x more i k k (shortest ready says h x (fits_chain test x more fit).0 call i k far stand
        (halts_first test x more (slice_get all k) is))
        (halts_test test x more (slice_get all k) is, refl)
    shortest ready says h (Inner n) fit call i k far stand is =
        ends says (Inner n) i (i + length (law.hints.whole_inner n)) k (sym far) (h n call i stand (subst (λ m. halts (Inner n) (slice_get all m)
        ≡ true) far is))
    shortest ready says h (Made f) fit call i k far stand is = goes_made says f i k (shortest ready says h f fit call i k far stand is)

    begun_at : (n : N) (i : ℕ) → Stands i (law.hints.whole_inner n) → passes (law.grammar.begins n) (slice_get all i) ≡ true
    begun_at n i stand = let first = leads_at (law.grammar.begins n) (law.hints.whole_inner n) i stand (law.begun n) in ap (passes
        (law.grammar.begins n)) first.1 ∙ first.2

    -- constructs that are counted, with room for one more in them than their shortest spellings need
    inner_begins : (ready : N → Bool) (room : ℕ) → Ready ready (guided_inner law.grammar all room) → (n : N) → calls ready
        (law.grammar.form n) ≡ true → (i : ℕ)
        → Stands i (law.hints.whole_inner n)
        → halts (Inner n) (slice_get all (i + length (law.hints.whole_inner n))) ≡ true → Goes (guided_inner law.grammar all (suc room))
        (Inner n) i (i + length (law.hints.whole_inner n))
    inner_begins ready room h n call i stand is =
        let k = i + length (law.hints.whole_inner n) in
        goes_form room n i k (begun_at n i stand)
        (shortest ready (guided_inner law.grammar all room) h (law.grammar.form n) (law.form_fits n) call i k (ap (λ ts. i + length ts) (sym
        (law.form_whole n)))
        (subst (λ ts. Stands i ts) (sym (law.form_whole n)) stand) (halts_form n (slice_get all k) is))

    never : (n : N) → false ≡ true → ⊥
    never n e = cc

    pub room_begins : (room : ℕ) → Ready (λ n. true) (guided_inner law.grammar all (suc (suc room)))
    room_begins room n so i stand is =
        inner_begins law.hints.flat (suc room) (λ m simple j there end. inner_begins (λ p. false) room (λ p none. absurd (never p none)) m
        (law.flat_calls m simple) j
        there end) n (law.form_calls n) i stand is
