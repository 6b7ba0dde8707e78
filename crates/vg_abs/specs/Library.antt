-- What is seen of a library, and what each of its calls does to it.
use Rattle.std.specs.Prelude.{ℕ, ◌≡◌, ◌≢◌, ◌+◌, ◌-◌, ◌<◌, ◌≤◌, List, [], ◌∷◌, length, take, drop, ◌++◌, Bool, true, false, Option, Some, None}
use Rattle.std.specs.Prelude.{slice_get, is_some, is_none, not, unwrap_or, IsSomeAnd, All}
use Rattle.std.specs.FinMap.{get}
use Rattle.vg_abs.specs.declared.object.Object.{Object}
use Rattle.vg_abs.specs.declared.object.Object.TheVariants.{Map, Chain, Keys, Cells, Prefixes}
use Rattle.vg_abs.specs.State.{State, link_of_map, link_of_chain, vector_of, prefixes_of}
use Rattle.vg_abs.specs.Answers.{index_of, time_of, match_in, count_before}
use Rattle.vg_abs.specs.Effects.{with_bytes}
use Rattle.vg_abs.specs.Rows.{Call, ChainAllocate, ExpireItems, is_used_up, may_hand_out, needs, is_met, fresh, effect}
use Rattle.vg_abs.specs.Agreement.{AgreeAt}

-- what is seen of a library: its state; which cells of which vectors are lent; whether something was asked that the state doesn't tell; and,
-- where it tells them, the indices that it is still to hand out, in order
pub record Library : Type 0 where
  pub state : State
  pub lent : ℕ → ℕ → Bool
  pub missed : Bool
  pub choices : Option (List ℕ)

-- an object is a map, a chain, a vector or a prefix table
abbrev pub IsMapIn : Option Object → Type 0
IsMapIn (Some (Map link)) = Unit {0}
IsMapIn _ = ⊥

abbrev pub IsMap : Library → ℕ → Type 0
IsMap s map = IsMapIn (slice_get s.state.objects map)

abbrev pub IsChainIn : Option Object → Type 0
IsChainIn (Some Chain) = Unit {0}
IsChainIn _ = ⊥

-- a chain stands behind its link's map
pub record IsChain (s : Library) (chain : ℕ) : Type 0 where
  pub of_chain : IsChainIn (slice_get s.state.objects chain)
  pub behind : 0 < chain
  pub map : IsMap s (chain - 1)

abbrev pub IsVectorIn : Library → ℕ → Option Object → Type 0
IsVectorIn s vector (Some (Cells cells)) = Unit {0}
IsVectorIn s vector (Some Keys) = (1 < vector) × IsMap s (vector - 2)
IsVectorIn s vector _ = ⊥

abbrev pub IsVector : Library → ℕ → Type 0
IsVector s vector = IsVectorIn s vector (slice_get s.state.objects vector)

abbrev pub IsTableIn : Option Object → Type 0
IsTableIn (Some (Prefixes prefixes)) = Unit {0}
IsTableIn _ = ⊥

abbrev pub IsTable : Library → ℕ → Type 0
IsTable s table = IsTableIn (slice_get s.state.objects table)

-- the state is this now, and nothing else has changed
pub record Becomes (s t : Library) (state : State) : Type 0 where
  pub state_is : t.state ≡ state
  pub same_lent : (vector index : ℕ) → t.lent vector index ≡ s.lent vector index
  pub same_choices : t.choices ≡ s.choices
  pub same_missed : t.missed ≡ s.missed

-- something was missed, now or before: nothing else has changed
pub record Misses (s t : Library) : Type 0 where
  pub missed : t.missed ≡ true
  pub state_stays : t.state ≡ s.state
  pub lent_stays : (vector index : ℕ) → t.lent vector index ≡ s.lent vector index
  pub choices_stay : t.choices ≡ s.choices

-- something is asked: where the state tells the answer, this holds of it, and where it doesn't, that is missed. What was missed stays missed;
-- then nothing else changes, and nothing is said of answers.
pub record Asks {A : Type 0} (s t : Library) (question : Option A) (Fact : A → Type 0) : Type 0 where
  pub stays : s.missed ≡ true → Misses s t
  pub untold : question ≡ None → Misses s t
  pub told : s.missed ≡ false → (answer : A) → question ≡ Some answer → Fact answer

-- the index of a key, or none where it is absent
abbrev pub Gets : Library → Library → ℕ → List ℕ → Option ℕ → Type 0
Gets s t map key result = Asks s t (index_of s.state.full (link_of_map s.state map) key) (λ answer. (result ≡ answer) × Becomes s t s.state)

-- whether an index is allocated
abbrev pub Tells : Library → Library → ℕ → ℕ → Bool → Type 0
Tells s t chain index result = Asks s t (time_of s.state.full (link_of_chain s.state chain) index) (λ answer. (result ≡ is_some answer) × Becomes s t s.state)

-- what a look-up answers
abbrev pub LooksUp : Library → Library → ℕ → ℕ → Option ℕ → Type 0
LooksUp s t table address result = Asks s t (match_in s.state.full (prefixes_of s.state table) address) (λ answer. (result ≡ answer) × Becomes s t s.state)

-- what a call needs of the state is told and met. What it needs of a frame's calls so far is no condition of the library.
abbrev pub Meets : Library → Call → Type 0
Meets s call = s.missed ≡ false → All (λ need. is_met s.state fresh need ≡ Some true) (needs call)

-- an effect of a call that answers nothing and asks nothing
pub record Does (s t : Library) (call : Call) : Type 0 where
  pub stays : s.missed ≡ true → Misses s t
  pub done : s.missed ≡ false → Becomes s t (effect s.state call 0)

-- indices are told, and this is the next
abbrev pub next_choice : Option (List ℕ) → Option ℕ
next_choice None = None
next_choice (Some []) = None
next_choice (Some (choice ∷ choices)) = Some choice

-- the choices that are left after one was taken
abbrev pub after_choice : Option (List ℕ) → Option (List ℕ)
after_choice None = None
after_choice (Some choices) = Some (drop 1 choices)

-- a free index is allocated with this time, which is the next choice where choices are told
pub record HandsOut (s t : Library) (chain now index : ℕ) : Type 0 where
  pub free : may_hand_out s.state chain index ≡ Some true
  pub next : s.choices ≢ None → next_choice s.choices ≡ Some index
  pub state_is : t.state ≡ effect s.state (ChainAllocate chain now) index
  pub same_lent : (vector cell : ℕ) → t.lent vector cell ≡ s.lent vector cell
  pub choices_left : t.choices ≡ after_choice s.choices
  pub same_missed : t.missed ≡ s.missed

-- whether a choice is lacking: choices are told, and none is left, or the next isn't told as one that can be handed out
abbrev pub is_lacking : State → ℕ → Option (List ℕ) → Bool
is_lacking s chain None = false
is_lacking s chain (Some []) = true
is_lacking s chain (Some (choice ∷ choices)) = not (unwrap_or (may_hand_out s chain choice) false)

abbrev pub lacks_choice : Library → ℕ → Bool
lacks_choice s chain = is_lacking s.state chain s.choices

-- an index is handed out, unless all are
pub record Allocates (s t : Library) (chain now : ℕ) (result : Option ℕ) : Type 0 where
  pub stays : s.missed ≡ true → Misses s t
  pub used_up : s.missed ≡ false → is_used_up s.state chain ≡ true → (result ≡ None) × Becomes s t s.state
  pub untold : s.missed ≡ false → is_used_up s.state chain ≡ false → lacks_choice s chain ≡ true → Misses s t
  pub handed : s.missed ≡ false → is_used_up s.state chain ≡ false → lacks_choice s chain ≡ false → IsSomeAnd result (HandsOut s t chain now)

-- what an expiry needs: no cell of the link's vector is lent, and the cell of each index that is told as allocated is a key mapped to that index
pub record MayExpire (s : Library) (map : ℕ) : Type 0 where
  pub none_lent : (index : ℕ) → s.lent (map + 2) index ≡ false
  pub keys : (index time : ℕ) → get (link_of_map s.state map).times index ≡ Some (Some time) →
      (key : List ℕ) × (get (link_of_map s.state map).cells index ≡ Some key) × (get (link_of_map s.state map).keys key ≡ Some (Some index))

-- exactly the indices with a time before the bound are freed, and their cells' keys erased; the answer is how many
abbrev pub Expires : Library → Library → ℕ → ℕ → ℕ → Type 0
Expires s t map before result =
    Asks s t (count_before s.state.full (link_of_map s.state map) before) (λ count. (result ≡ count)
    × Becomes s t (effect s.state (ExpireItems map (map + 1) (map + 2) before) 0))

-- whether one cell is lent is this now, and nothing else has changed but, maybe, what was missed
pub record ChangesLoan (s t : Library) (vector index : ℕ) (is_lent : Bool) : Type 0 where
  pub this : t.lent vector index ≡ is_lent
  pub other_cells : (other : ℕ) → other ≢ index → t.lent vector other ≡ s.lent vector other
  pub other_vectors : (other cell : ℕ) → other ≢ vector → t.lent other cell ≡ s.lent other cell
  pub same_state : t.state ≡ s.state
  pub same_choices : t.choices ≡ s.choices

-- a cell is lent
pub record Lends (s t : Library) (vector index : ℕ) : Type 0 where
  pub loan : ChangesLoan s t vector index true
  pub asked : t.missed ≡ is_none (get (vector_of s.state vector).cells index)

-- a lent cell is taken back
abbrev pub TakesBack : Library → Library → ℕ → ℕ → Type 0
TakesBack s t vector index = ChangesLoan s t vector index false × (t.missed ≡ s.missed)

-- bytes are stored into a cell, from a place on
abbrev pub Stores : Library → Library → ℕ → ℕ → ℕ → List ℕ → Type 0
Stores s t vector index from bytes = Asks s t (get (vector_of s.state vector).cells index) (λ cell.
    Becomes s t (with_bytes s.state vector index (take from cell ++ bytes ++ drop (from + length bytes) cell)))

-- so many bytes of a cell are there, where it is told
abbrev pub Fits : Library → ℕ → ℕ → ℕ → Type 0
Fits s vector index count = (cell : List ℕ) → get (vector_of s.state vector).cells index ≡ Some cell → count ≤ length cell

-- two objects are of one kind and size
abbrev pub SameKind : Object → Object → Type 0
SameKind (Map one) (Map other) = (one.capacity ≡ other.capacity) × (one.key_length ≡ other.key_length)
SameKind Chain Chain = Unit {0}
SameKind Keys Keys = Unit {0}
SameKind (Cells one) (Cells other) = one.cell_count ≡ other.cell_count
SameKind (Prefixes one) (Prefixes other) = Unit {0}
SameKind one other = ⊥

-- two states have one shape
pub record SameShape (s t : State) : Type 0 where
  pub as_many : length s.objects ≡ length t.objects
  pub each : (number : ℕ) (one other : Object) → slice_get s.objects number ≡ Some one → slice_get t.objects number ≡ Some other → SameKind one other

-- the least object at which two states differ in what both tell
pub record IsLeastDifference (s t : State) (object : ℕ) : Type 0 where
  pub differs : ¬ AgreeAt s t object
  pub least : (other : ℕ) → other < object → AgreeAt s t other

abbrev pub Differs : State → State → Option ℕ → Type 0
Differs s t None = (object : ℕ) → AgreeAt s t object
Differs s t (Some object) = IsLeastDifference s t object
