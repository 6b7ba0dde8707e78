-- What a run has done with the library in one frame, as it is kept.
use Rattle.std.specs.Prelude.{ℕ, ◌+◌, Bool, true, false, ◌&&◌, nat_eq, not, List, [], ◌∷◌, ◌++◌, map, filter, slice_set}
use Rattle.std.specs.List.{list_any}
use Rattle.vg_abs.specs.Rows.{FrameSoFar}
use Rattle.vg_crows.specs.declared.book.Cell.{Cell}

pub record Record : Type 0 where
  -- the indices that were handed out, with their chains, in order
  pub handed : List (ℕ × ℕ)
  -- the cells that are lent, in the order of their loans
  pub cells : List Cell
  -- of each declared object, whether it is the map of a link that was changed or expired
  pub changed : List Bool

-- a frame begins: of so many objects nothing is changed
abbrev pub fresh : List Bool → Record
fresh changed = record { handed = []; cells = []; changed = map (λ _. false) changed }

-- ---- changes

abbrev pub marked : Record → ℕ → Record
marked book link = record book { changed = slice_set book.changed link true }

-- the numbers of those that are marked, from one on
abbrev pub marked_from : ℕ → List Bool → List ℕ
marked_from number [] = []
marked_from number (true ∷ more) = number ∷ marked_from (number + 1) more
marked_from number (false ∷ more) = marked_from (number + 1) more

-- ---- indices

abbrev pub with_handed : Record → (chain index : ℕ) → Record
with_handed book chain index = record book { handed = book.handed ++ (chain, index) ∷ [] }

-- ---- loans

abbrev pub with_cell : Record → Cell → Record
with_cell book cell = record book { cells = book.cells ++ cell ∷ [] }

abbrev pub is_other : (vector index : ℕ) → Cell → Bool
is_other vector index cell = not (nat_eq cell.vector vector && nat_eq cell.index index)

abbrev pub without_cell : Record → (vector index : ℕ) → Record
without_cell book vector index = record book { cells = filter (is_other vector index) book.cells }

-- whether a cell is lent under a name
abbrev pub is_name_of : (vector index number : ℕ) → Cell → Bool
is_name_of vector index number cell = nat_eq cell.vector vector && (nat_eq cell.index index && nat_eq cell.number number)

abbrev pub is_lent_as : Record → (vector index number : ℕ) → Bool
is_lent_as book vector index number = list_any (is_name_of vector index number) book.cells

-- ---- the same in the library's words

abbrev pub place_of : Cell → ℕ × ℕ
place_of cell = (cell.vector, cell.index)

abbrev pub so_far : Record → FrameSoFar
so_far book = record { handed = book.handed; lent = map place_of book.cells; changed = marked_from 0 book.changed }
