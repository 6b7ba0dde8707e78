-- What tokens spell: the forms of a grammar as relations. A form is spelled by the tokens between two states, and the second state
-- has the tree that they make. A choice is spelled by either side, and a chain by any number of turns: the tests that forms have for
-- the reader say nothing here.
use Rattle.std.specs.Prelude.{◌≡◌, ℕ, zero, suc, ◌+◌, List, length, slice_get, false, Some, ◌⊎◌}
use Rattle.vg_forms.specs.declared.token.Token.{Token}
use Rattle.vg_forms.specs.Forms.{Form, Plain, Place, One, Unless, Both, Either, Chain, Inner, Made, Growth}
use Rattle.vg_forms.specs.Places.{State, place_at, passes}
use Rattle.vg_forms.specs.Grammar.{Grammar}

-- a relation of a form with a value of A: from a state, with a value, to a state
abbrev pub Spelled : Type 0 → Type 0 → Type 1
Spelled G A = State G → A → State G → Type 0

module _ {K G : Type 0} (toks : List (Token K)) where
  -- any number of turns of a chain, behind a value
  abbrev pub Turns : {A : Type 0} → ℕ → Spelled G (ℕ → A → Growth G A) → ℕ → A → Spelled G A
  Turns zero more at a s b t = (b ≡ a) × (t ≡ s)
  Turns (suc n) more at a s b t =
      (g : ℕ → _ → Growth G _) × (u : State G) × more s g u × Turns n more at (g at a u.tree).0 (record u { tree = (g at a u.tree).1 }) b t

module _ {K N G : Type 0} (toks : List (Token K)) where
  -- each form, where it is known what spells the constructs that are counted
  abbrev pub spelled_with : {A : Type 0} → (N → Spelled G ℕ) → Form K N G A → Spelled G A
  spelled_with inner (Plain a) s b t = (b ≡ a) × (t ≡ s)
  spelled_with inner Place s b t = (b ≡ place_at toks s.at) × (t ≡ s)
  spelled_with inner (One test) s b t = (x : Token K) × (slice_get toks s.at ≡ Some x) × (test x ≡ Some b) × (t ≡ record s { at = s.at + 1 })
  spelled_with inner (Unless test) s b t = (passes test (slice_get toks s.at) ≡ false) × (t ≡ s)
  spelled_with inner (Both f x) s b t = (g : _ → _) × (u : State G) × (a : _) × spelled_with inner f s g u × spelled_with inner x u a t × (b ≡ g a)
  spelled_with inner (Either test x y) s b t = spelled_with inner x s b t ⊎ spelled_with inner y s b t
  spelled_with inner (Chain test x more) s b t = (a : _) × (u : State G) × (n : ℕ) × spelled_with inner x s a u
      × Turns toks n (spelled_with inner more) (place_at toks s.at) a u b t
  spelled_with inner (Inner n) s b t = inner n s b t
  spelled_with inner (Made f) s b t = (g : Growth G _) × (u : State G) × spelled_with inner f s g u × (b ≡ (g u.tree).0) × (t ≡ record u {
    tree =
        (g u.tree).1;
  })

module _ {K N G : Type 0} (grammar : Grammar K N G) where
  module _ (toks : List (Token K)) where
    -- the constructs that are counted, with room for so many in one another
    abbrev pub spelled_inner : ℕ → N → Spelled G ℕ
    spelled_inner zero n s b t = ⊥
    spelled_inner (suc room) n s b t = spelled_with toks (spelled_inner room) (grammar.form n) s b t

    abbrev pub spelled : {A : Type 0} → ℕ → Form K N G A → Spelled G A
    spelled room f s b t = spelled_with toks (spelled_inner room) f s b t

  -- nothing is read yet
  abbrev pub start : State G
  start = record { at = 0; tree = grammar.empty }

  -- these tokens, to the last, spell this tree, with at most so many constructs in one another; the root is its last node
  abbrev pub Spells : ℕ → List (Token K) → G → Type 0
  Spells room toks tree = (root : ℕ) × spelled toks room grammar.unit start root (record { at = length toks; tree = tree })
