-- The slots of the table as a list, and how keys stand in them.
use Rattle.std.specs.Prelude.{◌≡◌, ℕ, ◌+◌, ◌*◌, ◌≤◌, ◌<◌, suc, List, [], ◌∷◌, length, take, drop, get_or, Option, None, Some, option_map, IsSome}
use Rattle.std.specs.FinMap.{from_entries, len}
use Rattle.vg_map.specs.declared.hash.Homes.{Homes}
use Rattle.vg_map.specs.Hash.{home_of}
use Rattle.vg_map.specs.Map.{Indices}

-- a key and its index
abbrev pub Entry : Type 0
Entry = List ℕ × ℕ

-- The slots. Slot i is empty where `indices` has none at i; else the i-th piece of the block of keys stands there.
abbrev pub slots_of : ℕ → List ℕ → List (Option ℕ) → List (Option Entry)
slots_of key_len keys [] = []
slots_of key_len keys (index ∷ indices) = option_map (λ i. (take key_len keys, i)) index ∷ slots_of key_len (drop key_len keys) indices

abbrev pub slot : List (Option Entry) → ℕ → Option Entry
slot slots i = get_or slots i None

-- what stands in the full slots, in their order
abbrev pub entries_of : List (Option Entry) → List Entry
entries_of [] = []
entries_of (None ∷ slots) = entries_of slots
entries_of (Some e ∷ slots) = e ∷ entries_of slots

-- the map that the slots stand for
abbrev pub map_of : List (Option Entry) → Indices
map_of slots = from_entries (entries_of slots)

-- how many slots are full
abbrev pub full_slots : List (Option ℕ) → ℕ
full_slots [] = 0
full_slots (None ∷ indices) = full_slots indices
full_slots (Some i ∷ indices) = suc (full_slots indices)

-- a key at slot i is met by a search from its home: no slot from there up to i is empty
pub record IsMet (homes : Homes) (slots : List (Option Entry)) (i : ℕ) (key : List ℕ) : Type 0 where
  pub home : home_of homes key ≤ i
  pub full : (j : ℕ) → home_of homes key ≤ j → j < i → IsSome (slot slots j)

-- no key stands in two slots
abbrev pub StandOnce : List (Option Entry) → Type 0
StandOnce slots = (i j : ℕ) (e f : Entry) → slot slots i ≡ Some e → slot slots j ≡ Some f → e.0 ≡ f.0 → i ≡ j

-- The fields of a table fit together. Homes are the first `mask + 1` slots, and a search runs on into `capacity` more: so
-- none comes to the end, since no more than `capacity` slots are full.
pub record IsTable (homes : Homes) (key_len capacity size : ℕ) (keys : List ℕ) (indices : List (Option ℕ)) : Type 0 where
  pub slots : length indices ≡ homes.mask + 1 + capacity
  pub bytes : length keys ≡ length indices * key_len
  pub full : full_slots indices ≡ size
  pub counted : len (map_of (slots_of key_len keys indices)) ≡ size
  pub within : size ≤ capacity
  pub met : (i : ℕ) (e : Entry) → slot (slots_of key_len keys indices) i ≡ Some e → IsMet homes (slots_of key_len keys indices) i e.0
  pub once : StandOnce (slots_of key_len keys indices)
