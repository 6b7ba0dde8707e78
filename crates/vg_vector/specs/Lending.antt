-- How what is written through a cell's bytes comes back.
use Rattle.std.specs.Prelude.{◌*◌, ◌++◌, ◌==◌, if◌then◌else◌, ℕ, List, length, take, drop}
use Rattle.std.specs.List.{concat}
use Rattle.std.specs.Borrow.{Lends, MutBor, Fml, Array, u8}
use Rattle.vg_vector.specs.Cells.{CellList, cells_of, with_cell}
use Rattle.vg_vector.specs.contracts.cells.Cells.{the_row}

-- bytes that don't fit the cell stand in the block from its start on, as far as the block goes
abbrev pub with_spill : CellList → ℕ → List ℕ → CellList
with_spill all i bytes =
    let block = concat all.cells in
    record all {
      cells = cells_of (length all.cells) all.size (take (length all.cells * all.size)
          (take (i * all.size) block ++ (bytes ++ drop (length bytes) (drop (i * all.size) block))));
    }

-- the cells end with cell i holding the bytes last written through r, and nothing else has changed. (A slice keeps its length, so nothing spills.)
abbrev pub LendsCell : MutBor CellList → ℕ → MutBor (List ℕ) → Fml
LendsCell all i r = Lends the_row (Array u8 0) all r (λ bytes. if length bytes == all.now.size then with_cell all.now i bytes else with_spill all.now i bytes)
