-- Lists that are kept as links in slots: slot k holds the index that comes after k, or before it.
use Rattle.std.specs.Prelude.{ℕ, zero, suc, ◌≡◌, ◌+◌, List, [], ◌∷◌, length, slice_index}
use Rattle.vg_dchain.specs.Indices.{IsDistinct, AllBelow}

-- the next n indices after k
abbrev pub indices_after : ℕ → List ℕ → ℕ → List ℕ
indices_after zero links k = []
indices_after (suc n) links k = slice_index links k ∷ indices_after n links (slice_index links k)

-- the links lead from a through the list to b
abbrev pub Leads : List ℕ → ℕ → List ℕ → ℕ → Type 0
Leads links a [] b = slice_index links a ≡ b
Leads links a (x ∷ xs) b = (slice_index links a ≡ x) × Leads links x xs b

-- the links lead back from b through the list to a
abbrev pub LeadsBack : List ℕ → ℕ → List ℕ → ℕ → Type 0
LeadsBack links a [] b = slice_index links b ≡ a
LeadsBack links a (x ∷ xs) b = (slice_index links x ≡ a) × LeadsBack links x xs b

-- both links go round from the place `end` through the list and back to `end`, which is no index
pub record IsRing (next previous : List ℕ) (end : ℕ) (order : List ℕ) : Type 0 where
  pub next_fits : length next ≡ end + 1
  pub previous_fits : length previous ≡ end + 1
  pub leads : Leads next end order end
  pub back : LeadsBack previous end order end
  pub below : AllBelow end order
  pub distinct : IsDistinct order

-- the links lead from the place `end`, which is no index, through the list
pub record IsRow (links : List ℕ) (end : ℕ) (order : List ℕ) : Type 0 where
  pub fits : length links ≡ end + 1
  pub below : AllBelow end order
