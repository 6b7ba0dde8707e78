-- Lists of numbers, one for each place of a table. Public clauses use only IsListedFrom of this file, for the places of decisions.
use Rattle.std.specs.Prelude.{◌≡◌, ℕ, ◌<◌, ◌≤◌, List, [], length, slice_index_or}

-- it stands in the list, somewhere from a place on
abbrev pub IsListedFrom : List ℕ → ℕ → ℕ → Type 0
IsListedFrom list from entry = (k : ℕ) × (from ≤ k) × (k < length list) × (slice_index_or list k 0 ≡ entry)

-- what stood in a list from a place on still does
pub record Lengthens (old new : List (List ℕ)) : Type 0 where
  pub places : length new ≡ length old
  pub kept : (place from entry : ℕ) → IsListedFrom (slice_index_or old place []) from entry → IsListedFrom (slice_index_or new place []) from entry
