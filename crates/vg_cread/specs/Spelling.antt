-- What tokens spell: the forms of the grammar as relations. A form is spelled by the tokens between two states, and the second state
-- has the tree that they make. A choice is spelled by either side, and a chain by any number of turns: the tests that forms have for
-- the reader say nothing here.
use Rattle.std.specs.Prelude.{◌≡◌, ℕ, zero, suc, ◌+◌, List, [], length, slice_get, false, Some, ◌⊎◌}
use Rattle.vg_core.specs.Syntax.{Syntax}
use Rattle.vg_ctok.specs.declared.kinds.Token.{Token}
use Rattle.vg_cread.specs.Forms.{Form, Plain, Place, One, Unless, Both, Either, Chain, Inner, Made, Nested, Growth}
use Rattle.vg_cread.specs.Grammar.{form, unit}
use Rattle.vg_cread.specs.Places.{State, place_at, passes}

-- a relation of a form with a value of A: from a state, with a value, to a state
abbrev pub Spelled : Type 0 → Type 1
Spelled A = State → A → State → Type 0

module _ (toks : List Token) where
  -- any number of turns of a chain, behind a value
  abbrev pub Turns : {A : Type 0} → ℕ → Spelled (ℕ → A → Growth A) → ℕ → A → Spelled A
  Turns zero more at a s b t = (b ≡ a) × (t ≡ s)
  Turns (suc n) more at a s b t =
      (g : ℕ → _ → Growth _) × (u : State) × more s g u × Turns n more at (g at a u.tree).0 (record u { tree = (g at a u.tree).1 }) b t

  -- each form, where it is known what spells the constructs that are counted
  abbrev pub spelled_with : {A : Type 0} → (Nested → Spelled ℕ) → Form A → Spelled A
  spelled_with inner (Plain a) s b t = (b ≡ a) × (t ≡ s)
  spelled_with inner Place s b t = (b ≡ place_at toks s.at) × (t ≡ s)
  spelled_with inner (One test) s b t = (x : Token) × (slice_get toks s.at ≡ Some x) × (test x ≡ Some b) × (t ≡ record s { at = s.at + 1 })
  spelled_with inner (Unless test) s b t = (passes test (slice_get toks s.at) ≡ false) × (t ≡ s)
  spelled_with inner (Both f x) s b t = (g : _ → _) × (u : State) × (a : _) × spelled_with inner f s g u × spelled_with inner x u a t × (b ≡ g a)
  spelled_with inner (Either test x y) s b t = spelled_with inner x s b t ⊎ spelled_with inner y s b t
  spelled_with inner (Chain test x more) s b t = (a : _) × (u : State) × (n : ℕ) × spelled_with inner x s a u
      × Turns n (spelled_with inner more) (place_at toks s.at) a u b t
  spelled_with inner (Inner n) s b t = inner n s b t
  spelled_with inner (Made f) s b t = (g : Growth _) × (u : State) × spelled_with inner f s g u × (b ≡ (g u.tree).0) × (t ≡ record u { tree = (g u.tree).1 })

  -- the constructs that are counted, with room for so many in one another
  abbrev pub spelled_inner : ℕ → Nested → Spelled ℕ
  spelled_inner zero n s b t = ⊥
  spelled_inner (suc room) n s b t = spelled_with (spelled_inner room) (form n) s b t

  abbrev pub spelled : {A : Type 0} → ℕ → Form A → Spelled A
  spelled room f s b t = spelled_with (spelled_inner room) f s b t

-- nothing is read yet
abbrev pub start : State
start = record { at = 0; tree = record { nodes = []; items = [] } }

-- these tokens, to the last, spell this tree, with at most so many constructs in one another; the root is its last node
abbrev pub Spells : ℕ → List Token → Syntax → Type 0
Spells room toks tree = (root : ℕ) × spelled toks room unit start root (record { at = length toks; tree = tree })
