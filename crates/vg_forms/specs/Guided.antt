-- A grammar with the tests of its forms, as the reader goes: of a choice the next token tells the side, and of a chain whether it
-- turns again. What tokens spell doesn't ask for these tests, and is the same.
use Rattle.std.specs.Prelude.{◌≡◌, ℕ, zero, suc, ◌+◌, List, length, slice_get, Bool, true, false, Some, None, ◌⊎◌}
use Rattle.vg_forms.specs.declared.token.Token.{Token}
use Rattle.vg_forms.specs.Forms.{Form, Plain, Place, One, Unless, Both, Either, Chain, Inner, Made, Growth}
use Rattle.vg_forms.specs.Places.{State, place_at, passes, tested}
use Rattle.vg_forms.specs.Grammar.{Grammar}
use Rattle.vg_forms.specs.Spelling.{Spelled, start}

module _ {K G : Type 0} (toks : List (Token K)) where
  -- so many turns of a chain, behind a value
  abbrev pub GuidedTurns : {A : Type 0} → ℕ → (Token K → Bool) → Spelled G (ℕ → A → Growth G A) → ℕ → A → Spelled G A
  GuidedTurns zero test more at a s b t = (passes test (slice_get toks s.at) ≡ false) × (b ≡ a) × (t ≡ s)
  GuidedTurns (suc n) test more at a s b t =
      (passes test (slice_get toks s.at) ≡ true) × (g : ℕ → _ → Growth G _) × (u : State G) × more s g u
      × GuidedTurns n test more at (g at a u.tree).0 (record u { tree = (g at a u.tree).1 }) b t

module _ {K N G : Type 0} (toks : List (Token K)) where
  -- each form, where it is known what spells the constructs that are counted
  abbrev pub guided_with : {A : Type 0} → (N → Spelled G ℕ) → Form K N G A → Spelled G A
  guided_with inner (Plain a) s b t = (b ≡ a) × (t ≡ s)
  guided_with inner Place s b t = (b ≡ place_at toks s.at) × (t ≡ s)
  guided_with inner (One test) s b t = (x : Token K) × (slice_get toks s.at ≡ Some x) × (test x ≡ Some b) × (t ≡ record s { at = s.at + 1 })
  guided_with inner (Unless test) s b t = (passes test (slice_get toks s.at) ≡ false) × (t ≡ s)
  guided_with inner (Both f x) s b t = (g : _ → _) × (u : State G) × (a : _) × guided_with inner f s g u × guided_with inner x u a t × (b ≡ g a)
  guided_with inner (Either test x y) s b t =
      ((passes test (slice_get toks s.at) ≡ true) × guided_with inner x s b t) ⊎ ((passes test (slice_get toks s.at) ≡ false) × guided_with inner y s b t)
  guided_with inner (Chain test x more) s b t = (a : _) × (u : State G) × (n : ℕ) × guided_with inner x s a u
      × GuidedTurns toks n test (guided_with inner more) (place_at toks s.at) a u b t
  guided_with inner (Inner n) s b t = inner n s b t
  guided_with inner (Made f) s b t = (g : Growth G _) × (u : State G) × guided_with inner f s g u × (b ≡ (g u.tree).0) × (t ≡ record u {
    tree =
        (g u.tree).1;
  })

module _ {K N G : Type 0} (grammar : Grammar K N G) (toks : List (Token K)) where
  -- the constructs that are counted, with room for so many in one another
  abbrev pub guided_inner : ℕ → N → Spelled G ℕ
  guided_inner zero n s b t = ⊥
  guided_inner (suc room) n s b t = (passes (grammar.begins n) (slice_get toks s.at) ≡ true) × guided_with toks (guided_inner room) (grammar.form n) s b t

module _ {K N G : Type 0} (grammar : Grammar K N G) (toks : List (Token K)) where
  abbrev pub guided : {A : Type 0} → ℕ → Form K N G A → Spelled G A
  guided room f s b t = guided_with toks (guided_inner grammar toks room) f s b t

module _ {K N G : Type 0} (grammar : Grammar K N G) where
  -- these tokens, to the last, are gone along to this tree
  abbrev pub Guides : ℕ → List (Token K) → G → Type 0
  Guides room toks tree = (root : ℕ) × guided grammar toks room grammar.unit (start grammar) root (record { at = length toks; tree = tree })

module _ {K G : Type 0} (toks : List (Token K)) where
  -- so many turns of a chain are spelled, and in the next one its form stops
  abbrev pub GuidedTurnsTo : {A : Type 0} → ℕ → (Token K → Bool) → Spelled G (ℕ → A → Growth G A) → (State G → Type 0) → ℕ → A → State G → Type 0
  GuidedTurnsTo zero test more stops at a s = (passes test (slice_get toks s.at) ≡ true) × stops s
  GuidedTurnsTo (suc n) test more stops at a s =
      (passes test (slice_get toks s.at) ≡ true) × (g : ℕ → _ → Growth G _) × (u : State G) × more s g u
      × GuidedTurnsTo n test more stops at (g at a u.tree).0 (record u { tree = (g at a u.tree).1 })

module _ {K N G : Type 0} (toks : List (Token K)) where
  -- a form from a state on, along its tokens, comes to a place where `lacks` holds and where it needs another token than the next,
  -- or to a construct that is counted, where `inner` holds
  abbrev pub comes_guided : {A : Type 0} → (N → Spelled G ℕ) → (State G → Type 0) → (N → State G → Type 0) → Form K N G A → State G → Type 0
  comes_guided says lacks inner (Plain a) s = ⊥
  comes_guided says lacks inner Place s = ⊥
  comes_guided says lacks inner (One test) s = lacks s × (tested test (slice_get toks s.at) ≡ None)
  comes_guided says lacks inner (Unless test) s = lacks s × (passes test (slice_get toks s.at) ≡ true)
  comes_guided says lacks inner (Both f x) s =
      comes_guided says lacks inner f s ⊎ ((g : _ → _) × (u : State G) × guided_with toks says f s g u × comes_guided says lacks inner x u)
  comes_guided says lacks inner (Either test x y) s =
      ((passes test (slice_get toks s.at) ≡ true) × comes_guided says lacks inner x s) ⊎ ((passes test (slice_get toks s.at) ≡ false)
      × comes_guided says lacks inner y s)
  comes_guided says lacks inner (Chain test x more) s =
      comes_guided says lacks inner x s
      ⊎ ((a : _) × (u : State G) × (n : ℕ) × guided_with toks says x s a u × GuidedTurnsTo toks n test (guided_with toks says more)
      (comes_guided says lacks inner more) (place_at toks s.at) a u)
  comes_guided says lacks inner (Inner n) s = inner n s
  comes_guided says lacks inner (Made f) s = comes_guided says lacks inner f s

module _ {K N G : Type 0} (grammar : Grammar K N G) (toks : List (Token K)) where
  -- a counted construct comes to a place behind so many tokens where it needs another token than the next
  abbrev pub lacks_guided : ℕ → ℕ → N → State G → Type 0
  lacks_guided i zero n s = (s.at ≡ i) × (passes (grammar.begins n) (slice_get toks s.at) ≡ false)
  lacks_guided i (suc room) n s =
      ((s.at ≡ i) × (passes (grammar.begins n) (slice_get toks s.at) ≡ false))
      ⊎ ((passes (grammar.begins n) (slice_get toks s.at) ≡ true) × comes_guided toks (guided_inner grammar toks room) (λ u. u.at ≡ i)
      (lacks_guided i room) (grammar.form n) s)

module _ {K N G : Type 0} (grammar : Grammar K N G) (toks : List (Token K)) where
  -- a counted construct comes to one that begins with the token behind so many, and has no room
  abbrev pub opens_guided : ℕ → ℕ → N → State G → Type 0
  opens_guided i zero n s = (s.at ≡ i) × (passes (grammar.begins n) (slice_get toks s.at) ≡ true)
  opens_guided i (suc room) n s =
      (passes (grammar.begins n) (slice_get toks s.at) ≡ true) × comes_guided toks (guided_inner grammar toks room) (λ u. ⊥) (opens_guided i room)
      (grammar.form n) s

module _ {K N G : Type 0} (grammar : Grammar K N G) where
  -- along the first so many tokens, with room for so many constructs in one another, the grammar comes to a place where it needs
  -- another token than the next, or where it needs one and none is left
  abbrev pub LacksGuided : ℕ → List (Token K) → ℕ → Type 0
  LacksGuided room toks i = comes_guided toks (guided_inner grammar toks room) (λ s. s.at ≡ i) (lacks_guided grammar toks i room) grammar.unit (start grammar)

module _ {K N G : Type 0} (grammar : Grammar K N G) where
  -- along the first so many tokens the grammar comes to a place where the next token opens a construct that has no room
  abbrev pub OpensGuided : ℕ → List (Token K) → ℕ → Type 0
  OpensGuided room toks i = comes_guided toks (guided_inner grammar toks room) (λ s. ⊥) (opens_guided grammar toks i room) grammar.unit (start grammar)
