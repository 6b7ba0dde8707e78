-- The library's rows over numbers and bytes: what each call needs, in order, which case it is, what it answers and what it leaves. The
-- meaning of C, specifications and the verifier all cite these. Pointers and the bytes of a frame are no part of this.
use Rattle.std.specs.Prelude.{ℕ, ◌+◌, ◌-◌, ◌==◌, ◌&&◌, not, nat_lt, nat_le, List, [], ◌∷◌, ◌++◌, length, filter, slice_get, Bool, true, false, Option}
use Rattle.std.specs.Prelude.{Some, None, is_some, is_none, unwrap_or, if◌then◌else◌}
use Rattle.std.specs.List.{list_any}
use Rattle.std.specs.Option.{option_map}
use Rattle.std.specs.FinMap.{get}
use Rattle.vg_abs.specs.declared.object.Object.{Object}
use Rattle.vg_abs.specs.declared.object.Object.TheVariants.{Keys}
use Rattle.vg_abs.specs.State.{State, link_of_map, link_of_chain, vector_of, prefixes_of}
use Rattle.vg_abs.specs.Answers.{index_of, time_of, match_in, count_before}
use Rattle.vg_abs.specs.Effects.{with_key, without_key, with_index, with_time, without_index, expired, with_link}

-- a call of the library, by the numbers of its objects, and the bytes of its key
pub data Call : Type 0 where
  MapGet : (map : ℕ) (key : List ℕ) → Call
  MapPut : (map : ℕ) (key : List ℕ) (index : ℕ) → Call
  MapErase : (map : ℕ) (key : List ℕ) → Call
  MapSize : (map : ℕ) → Call
  ChainAllocate : (chain time : ℕ) → Call
  ChainIsAllocated : (chain index : ℕ) → Call
  ChainRejuvenate : (chain index time : ℕ) → Call
  ChainFree : (chain index : ℕ) → Call
  ExpireItems : (map chain vector before : ℕ) → Call
  VectorBorrow : (vector index : ℕ) → Call
  VectorReturn : (vector index : ℕ) → Call
  PrefixLookup : (table address : ℕ) → Call

-- its row in the library's table, whose rows are numbered from 1 and whose first three are on the frame
abbrev pub row_of : Call → ℕ
row_of (MapGet map key) = 4
row_of (MapPut map key index) = 5
row_of (MapErase map key) = 6
row_of (MapSize map) = 7
row_of (ChainAllocate chain time) = 8
row_of (ChainIsAllocated chain index) = 9
row_of (ChainRejuvenate chain index time) = 10
row_of (ChainFree chain index) = 11
row_of (ExpireItems map chain vector before) = 12
row_of (VectorBorrow vector index) = 13
row_of (VectorReturn vector index) = 14
row_of (PrefixLookup table address) = 15

-- what a run has done in this frame so far: the indices that it was handed, with their chains, in order; the cells that are lent to it,
-- with their vectors; and the links, by their maps, that it has changed or expired
pub record FrameSoFar : Type 0 where
  pub handed : List (ℕ × ℕ)
  pub lent : List (ℕ × ℕ)
  pub changed : List ℕ

-- nothing was done yet
abbrev pub fresh : FrameSoFar
fresh = record { handed = []; lent = []; changed = [] }

-- at most so many indices are handed out in a frame, and so many cells are lent at a time
abbrev pub most_handed : ℕ
most_handed = 64

abbrev pub most_lent : ℕ
most_lent = 16

-- what a call needs, before anything is done
pub data Need : Type 0 where
  -- the map has fewer keys than its capacity
  HasRoom : (map : ℕ) → Need
  -- an index is below the capacity of a map's link
  IsInMap : (map index : ℕ) → Need
  -- an index is below the capacity of a chain's link
  IsInChain : (chain index : ℕ) → Need
  -- an index is below the length of a vector
  IsInVector : (vector index : ℕ) → Need
  -- the key is absent
  IsAbsent : (map : ℕ) (key : List ℕ) → Need
  -- the key is present
  IsPresent : (map : ℕ) (key : List ℕ) → Need
  -- the index is allocated
  IsAllocated : (chain index : ℕ) → Need
  -- the time is no earlier than the chain's highest
  IsNoEarlier : (chain time : ℕ) → Need
  -- fewer indices are handed out in this frame than may be
  MayBeHanded : Need
  -- these are the map, the chain and the vector of one link
  AreOneLink : (map chain vector : ℕ) → Need
  -- in this frame the link was neither changed nor expired
  IsUnchanged : (map : ℕ) → Need
  -- no cell of the vector is lent
  NoneIsLent : (vector : ℕ) → Need
  -- the cell isn't lent
  IsNotLent : (vector index : ℕ) → Need
  -- fewer cells are lent than may be
  MayBeLent : Need
  -- the cell is lent
  IsLent : (vector index : ℕ) → Need

-- what a call needs, in the order in which it is asked
abbrev pub needs : Call → List Need
needs (MapGet map key) = []
needs (MapPut map key index) = HasRoom map ∷ IsInMap map index ∷ IsAbsent map key ∷ []
needs (MapErase map key) = IsPresent map key ∷ []
needs (MapSize map) = []
needs (ChainAllocate chain time) = IsNoEarlier chain time ∷ MayBeHanded ∷ []
needs (ChainIsAllocated chain index) = IsInChain chain index ∷ []
needs (ChainRejuvenate chain index time) = IsInChain chain index ∷ IsAllocated chain index ∷ IsNoEarlier chain time ∷ []
needs (ChainFree chain index) = IsInChain chain index ∷ IsAllocated chain index ∷ []
needs (ExpireItems map chain vector before) = AreOneLink map chain vector ∷ IsUnchanged map ∷ NoneIsLent vector ∷ []
needs (VectorBorrow vector index) = IsInVector vector index ∷ IsNotLent vector index ∷ MayBeLent ∷ []
needs (VectorReturn vector index) = IsLent vector index ∷ []
needs (PrefixLookup table address) = []

-- whether a need is asked only once the key's bytes are read: numbers are compared before
abbrev pub is_of_key : Need → Bool
is_of_key (IsAbsent map key) = true
is_of_key (IsPresent map key) = true
is_of_key _ = false

-- a cell is among those that are lent
abbrev pub is_lent : FrameSoFar → ℕ → ℕ → Bool
is_lent so_far vector index = list_any (λ cell. (cell.0 == vector) && (cell.1 == index)) so_far.lent

-- whether a need is met, or nothing where a partial state doesn't tell
abbrev pub is_met : State → FrameSoFar → Need → Option Bool
is_met s so_far (HasRoom map) = Some (nat_lt (link_of_map s map).size (link_of_map s map).capacity)
is_met s so_far (IsInMap map index) = Some (nat_lt index (link_of_map s map).capacity)
is_met s so_far (IsInChain chain index) = Some (nat_lt index (link_of_chain s chain).capacity)
is_met s so_far (IsInVector vector index) = Some (nat_lt index (vector_of s vector).cell_count)
is_met s so_far (IsAbsent map key) = option_map (λ answer. is_none answer) (index_of s.full (link_of_map s map) key)
is_met s so_far (IsPresent map key) = option_map (λ answer. is_some answer) (index_of s.full (link_of_map s map) key)
is_met s so_far (IsAllocated chain index) = option_map (λ answer. is_some answer) (time_of s.full (link_of_chain s chain) index)
is_met s so_far (IsNoEarlier chain time) = Some (nat_le (link_of_chain s chain).highest time)
is_met s so_far MayBeHanded = Some (nat_lt (length so_far.handed) most_handed)
is_met s so_far (AreOneLink map chain vector) = Some ((chain == map + 1) && (vector == map + 2))
is_met s so_far (IsUnchanged map) = Some (not (list_any (λ changed. changed == map) so_far.changed))
is_met s so_far (NoneIsLent vector) = Some (not (list_any (λ cell. cell.0 == vector) so_far.lent))
is_met s so_far (IsNotLent vector index) = Some (not (is_lent so_far vector index))
is_met s so_far MayBeLent = Some (nat_lt (length so_far.lent) most_lent)
is_met s so_far (IsLent vector index) = Some (is_lent so_far vector index)

-- whether no index of a chain is free
abbrev pub is_used_up : State → ℕ → Bool
is_used_up s chain = (link_of_chain s chain).count == (link_of_chain s chain).capacity

-- the case of a question: 0 where it has something for an answer, and 1 where it has none
abbrev pub case_by : Option (Option ℕ) → Option ℕ
case_by question = option_map (λ answer. if is_some answer then 0 else 1) question

-- whether an index can be handed out: it is below the chain's capacity and free; nothing where a partial state doesn't tell
abbrev pub may_hand_out : State → ℕ → ℕ → Option Bool
may_hand_out s chain index =
    if nat_lt index (link_of_chain s chain).capacity then option_map (λ answer. is_none answer) (time_of s.full (link_of_chain s chain) index) else Some false

-- which case of its row a call is, or nothing where a partial state doesn't tell. For `chain_allocate` it is 0 where no index is free. In the
-- case 1 the index that is allocated must be one that can be handed out.
abbrev pub case_of : State → Call → Option ℕ
case_of s (MapGet map key) = case_by (index_of s.full (link_of_map s map) key)
case_of s (ChainAllocate chain time) = Some (if is_used_up s chain then 0 else 1)
case_of s (ChainIsAllocated chain index) = case_by (time_of s.full (link_of_chain s chain) index)
case_of s (PrefixLookup table address) = case_by (match_in s.full (prefixes_of s table) address)
case_of s (ExpireItems map chain vector before) = option_map (λ count. 0) (count_before s.full (link_of_map s map) before)
case_of s (VectorBorrow vector index) = option_map (λ bytes. 0) (get (vector_of s vector).cells index)
case_of s _ = Some 0

-- what a call answers, and what it stores through its pointer
pub record Reply : Type 0 where
  pub answer : Option ℕ
  pub stored : Option ℕ

abbrev pub no_reply : Reply
no_reply = record { answer = None; stored = None }

abbrev pub with_stored : Option (Option ℕ) → Reply
with_stored (Some (Some value)) = record { answer = Some 1; stored = Some value }
with_stored _ = record { answer = Some 0; stored = None }

-- a free index is allocated, unless all are
abbrev pub allocation : Bool → ℕ → Reply
allocation true choice = record { answer = Some 0; stored = None }
allocation false choice = record { answer = Some 1; stored = Some choice }

-- what a call answers, where the state tells it; `choice` is the index that is allocated, if one is. What `vector_borrow` answers is a pointer.
abbrev pub reply : State → Call → ℕ → Reply
reply s (MapGet map key) choice = with_stored (index_of s.full (link_of_map s map) key)
reply s (MapSize map) choice = record { answer = Some (link_of_map s map).size; stored = None }
reply s (ChainAllocate chain time) choice = allocation (is_used_up s chain) choice
reply s (ChainIsAllocated chain index) choice = record { answer = (with_stored (time_of s.full (link_of_chain s chain) index)).answer; stored = None }
reply s (ExpireItems map chain vector before) choice = record { answer = count_before s.full (link_of_map s map) before; stored = None }
reply s (PrefixLookup table address) choice = with_stored (match_in s.full (prefixes_of s table) address)
reply s _ choice = no_reply

-- what a call leaves
abbrev pub effect : State → Call → ℕ → State
effect s (MapPut map key index) choice = with_link s map (with_key (link_of_map s map) key index)
effect s (MapErase map key) choice = with_link s map (without_key s.full (link_of_map s map) key)
effect s (ChainAllocate chain time) choice = if is_used_up s chain then s else with_link s (chain - 1) (with_index (link_of_chain s chain) choice time)
effect s (ChainRejuvenate chain index time) choice = with_link s (chain - 1) (with_time (link_of_chain s chain) index time)
effect s (ChainFree chain index) choice = with_link s (chain - 1) (without_index s.full (link_of_chain s chain) index)
effect s (ExpireItems map chain vector before) choice =
    with_link s map (expired s.full (link_of_map s map) before (unwrap_or (count_before s.full (link_of_map s map) before) 0))
effect s _ choice = s

-- a cell is lent no more
abbrev pub not_this : ℕ → ℕ → (ℕ × ℕ) → Bool
not_this vector index cell = not ((cell.0 == vector) && (cell.1 == index))

-- what a run has done in this frame, after a call; `choice` is the index that was allocated, if one was. Where no index is free, `chain_allocate`
-- changes no link.
abbrev pub after : State → FrameSoFar → Call → ℕ → FrameSoFar
after s so_far (MapPut map key index) choice = record so_far { changed = map ∷ so_far.changed }
after s so_far (MapErase map key) choice = record so_far { changed = map ∷ so_far.changed }
after s so_far (ChainAllocate chain time) choice =
    if is_used_up s chain then so_far else record so_far { handed = so_far.handed ++ (chain, choice) ∷ []; changed = (chain - 1) ∷ so_far.changed }
after s so_far (ChainRejuvenate chain index time) choice = record so_far { changed = (chain - 1) ∷ so_far.changed }
after s so_far (ChainFree chain index) choice = record so_far { changed = (chain - 1) ∷ so_far.changed }
after s so_far (ExpireItems map chain vector before) choice = record so_far { changed = map ∷ so_far.changed }
after s so_far (VectorBorrow vector index) choice = record so_far { lent = (vector, index) ∷ so_far.lent }
after s so_far (VectorReturn vector index) choice = record so_far { lent = filter (not_this vector index) so_far.lent }
after s so_far _ choice = so_far

-- a store into a cell of a vector of keys changes its link, also where it leaves the same bytes
abbrev pub after_store_in : FrameSoFar → ℕ → Option Object → FrameSoFar
after_store_in so_far vector (Some Keys) = record so_far { changed = (vector - 2) ∷ so_far.changed }
after_store_in so_far vector _ = so_far

abbrev pub after_store : State → FrameSoFar → ℕ → FrameSoFar
after_store s so_far vector = after_store_in so_far vector (slice_get s.objects vector)
