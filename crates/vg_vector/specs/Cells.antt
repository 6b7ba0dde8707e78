-- A list of cells of one size, by what each holds and whether it is lent.
use Rattle.std.specs.Prelude.{ℕ, zero, suc, List, [], ◌∷◌, Bool, take, drop, slice_set}

-- how many bytes a cell has, the bytes of each cell, and for each whether it is lent
pub record CellList : Type 0 where
  pub size : ℕ
  pub cells : List (List ℕ)
  pub lent : List Bool

-- the same cells, but that cell i holds these bytes
abbrev pub with_cell : CellList → ℕ → List ℕ → CellList
with_cell all i bytes = record all { cells = slice_set all.cells i bytes }

-- the same cells, but that this says whether cell i is lent
abbrev pub with_loan : CellList → ℕ → Bool → CellList
with_loan all i is_lent = record all { lent = slice_set all.lent i is_lent }

-- n cells of size bytes each, which stand one after the other in a block
abbrev pub cells_of : ℕ → ℕ → List ℕ → List (List ℕ)
cells_of zero size block = []
cells_of (suc n) size block = take size block ∷ cells_of n size (drop size block)
