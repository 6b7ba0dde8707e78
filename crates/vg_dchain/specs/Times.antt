-- A chain's parts: the order of age, the free indices, and the times by index.
use Rattle.std.specs.Prelude.{ℕ, ◌+◌, ◌≡◌, ◌<◌, Option, None, List, ◌++◌, length, map, slice_index_or, unwrap_or}
use Rattle.vg_dchain.specs.Indices.{Indices, IsDistinct, AllBelow}
use Rattle.vg_dchain.specs.ChainState.{time_at, RisesWithin}

-- each index with its time
abbrev pub stamps_of : List (Option ℕ) → List ℕ → List (ℕ × ℕ)
stamps_of times order = map (λ i. (i, unwrap_or (slice_index_or times i None) 0)) order

-- the parts fit together
pub record IsChain (by_age spare : Indices) (times : List (Option ℕ)) (newest : ℕ) : Type 0 where
  pub aged_bound : by_age.bound ≡ length times
  pub free_bound : spare.bound ≡ length times
  pub count : length by_age.order + length spare.order ≡ length times
  pub below : AllBelow (length times) (by_age.order ++ spare.order)
  pub distinct : IsDistinct (by_age.order ++ spare.order)
  pub times_are : (i : ℕ) → i < length times → slice_index_or times i None ≡ time_at (stamps_of times by_age.order) i
  pub rises : RisesWithin 0 (stamps_of times by_age.order) newest
