-- Why tokens spell no tree: no text goes on with a token, or a construct stands too deep.
use Rattle.std.specs.Prelude.{◌≡◌, ℕ, zero, suc, ◌+◌, ◌≤◌, List, ◌++◌, take, slice_get, true, Option, Some, None, ◌⊎◌}
use Rattle.vg_forms.specs.declared.token.Token.{Token}
use Rattle.vg_forms.specs.Forms.{Form, Plain, Place, One, Unless, Both, Either, Chain, Inner, Made, Growth}
use Rattle.vg_forms.specs.Places.{State, place_at, passes}
use Rattle.vg_forms.specs.Grammar.{Grammar}
use Rattle.vg_forms.specs.Spelling.{Spelled, spelled_with, spelled_inner, start, Spells}
use Rattle.vg_forms.specs.declared.stops.ReadFault.{ReadFault}
use Rattle.vg_forms.specs.declared.stops.ReadFault.TheVariants as faults

module _ {K G : Type 0} (toks : List (Token K)) where
  -- any number of turns of a chain are spelled, and in the next one its form comes to such a construct
  abbrev pub TurnsTo : {A : Type 0} → ℕ → Spelled G (ℕ → A → Growth G A) → (State G → Type 0) → ℕ → A → State G → Type 0
  TurnsTo zero more comes at a s = comes s
  TurnsTo (suc n) more comes at a s =
      (g : ℕ → _ → Growth G _) × (u : State G) × more s g u × TurnsTo n more comes at (g at a u.tree).0 (record u { tree = (g at a u.tree).1 })

module _ {K N G : Type 0} (toks : List (Token K)) where
  -- a form from a state on comes, along its tokens, to a construct that is counted, where `inner` holds
  abbrev pub comes_with : {A : Type 0} → (N → Spelled G ℕ) → (N → State G → Type 0) → Form K N G A → State G → Type 0
  comes_with says inner (Plain a) s = ⊥
  comes_with says inner Place s = ⊥
  comes_with says inner (One test) s = ⊥
  comes_with says inner (Unless test) s = ⊥
  comes_with says inner (Both f x) s = comes_with says inner f s ⊎ ((g : _ → _) × (u : State G) × spelled_with toks says f s g u × comes_with says inner x u)
  comes_with says inner (Either test x y) s = comes_with says inner x s ⊎ comes_with says inner y s
  comes_with says inner (Chain test x more) s =
      comes_with says inner x s
      ⊎ ((a : _) × (u : State G) × (n : ℕ) × spelled_with toks says x s a u × TurnsTo toks n (spelled_with toks says more) (comes_with says inner more)
      (place_at toks s.at) a u)
  comes_with says inner (Inner n) s = inner n s
  comes_with says inner (Made f) s = comes_with says inner f s

module _ {K N G : Type 0} (grammar : Grammar K N G) (toks : List (Token K)) where
  -- a counted construct comes to one that begins with the token behind so many, and has no room
  abbrev pub opens_inner : ℕ → ℕ → N → State G → Type 0
  opens_inner i zero n s = (s.at ≡ i) × (passes (grammar.begins n) (slice_get toks s.at) ≡ true)
  opens_inner i (suc room) n s = comes_with toks (spelled_inner grammar toks room) (opens_inner i room) (grammar.form n) s

module _ {K N G : Type 0} (grammar : Grammar K N G) where
  -- along the first so many tokens the grammar comes to a place where the next token opens a construct that has no room
  abbrev pub Opens : ℕ → List (Token K) → ℕ → Type 0
  Opens room toks i = comes_with toks (spelled_inner grammar toks room) (opens_inner grammar toks i room) grammar.unit (start grammar)

  -- no tokens that begin with these, up to the one behind so many, spell a tree; where none is behind so many, these spell none
  abbrev pub RulesOut : List (Token K) → ℕ → Option (Token K) → Type 0
  RulesOut toks i (Some t) = (room : ℕ) (more : List (Token K)) (tree : G) → Spells grammar room (take (i + 1) toks ++ more) tree → ⊥
  RulesOut toks i None = (room : ℕ) (tree : G) → Spells grammar room toks tree → ⊥

  -- these tokens begin a text that spells a tree, with room enough
  abbrev pub Begins : List (Token K) → Type 0
  Begins front = (room : ℕ) × (more : List (Token K)) × (tree : G) × Spells grammar room (front ++ more) tree

  -- at a place stands a token with which no tree goes on, while those before it begin one, and none up to it opens a construct that has
  -- no room; or there the last token ends, and one more is needed
  abbrev pub IsSyntax : ℕ → List (Token K) → ℕ → Type 0
  IsSyntax room toks at = (i : ℕ) × (at ≡ place_at toks i) × Begins (take i toks) × RulesOut toks i (slice_get toks i) × ((j : ℕ) → j ≤ i
      → Opens room toks j → ⊥)

  -- at a place stands a token that opens a construct for which there is no room
  abbrev pub IsDeep : ℕ → List (Token K) → ℕ → Type 0
  IsDeep room toks at = (i : ℕ) × (at ≡ place_at toks i) × Opens room toks i

  -- the faults that tokens have
  abbrev pub Refuses : ℕ → List (Token K) → ReadFault → Type 0
  Refuses room toks (faults.Syntax at) = IsSyntax room toks at
  Refuses room toks (faults.Deep at) = IsDeep room toks at
  Refuses room toks faults.Memory = ⊥
