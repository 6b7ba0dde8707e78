-- What the steps on the slots do: a search, and the closing of a gap.
use Rattle.std.specs.Prelude.{◌≡◌, ◌≢◌, ℕ, ◌≤◌, ◌<◌, List, length, Option, None, Some, ⊤, ◌⊎◌, IsSome}
use Rattle.vg_map.specs.declared.hash.Homes.{Homes}
use Rattle.vg_map.specs.Hash.{home_of}
use Rattle.vg_map.specs.Slots.{Entry, slot, map_of, StandOnce, IsMet}

-- a full slot with another key
abbrev pub IsOther : List ℕ → Option Entry → Type 0
IsOther key None = ⊥
IsOther key (Some e) = e.0 ≢ key

-- an empty slot, or that of the key
abbrev pub IsEnd : List ℕ → Option Entry → Type 0
IsEnd key None = ⊤
IsEnd key (Some e) = e.0 ≡ key

-- a search for a key from its home ends at slot `at`, and passes full slots with other keys only
pub record EndsAt (slots : List (Option Entry)) (key : List ℕ) (home at : ℕ) : Type 0 where
  pub within : at < length slots
  pub from : home ≤ at
  pub passed : (i : ℕ) → home ≤ i → i < at → IsOther key (slot slots i)
  pub end : IsEnd key (slot slots at)

-- Slot `gap` was emptied: each key is still met by a search that steps over it, but for the keys before `at`, which need no such step.
pub record HasGap (homes : Homes) (slots : List (Option Entry)) (gap at : ℕ) : Type 0 where
  pub empty : slot slots gap ≡ None
  pub home : (i : ℕ) (e : Entry) → slot slots i ≡ Some e → home_of homes e.0 ≤ i
  pub full : (i j : ℕ) (e : Entry) → slot slots i ≡ Some e → home_of homes e.0 ≤ j → j < i → IsSome (slot slots j) ⊎ ((j ≡ gap) × (at ≤ i))
  pub once : StandOnce slots

-- a gap has been closed: the same keys have the same indices, and a search meets each
pub record ClosesGap (homes : Homes) (old new : List (Option Entry)) : Type 0 where
  pub same : map_of new ≡ map_of old
  pub met : (i : ℕ) (e : Entry) → slot new i ≡ Some e → IsMet homes new i e.0
  pub once : StandOnce new
