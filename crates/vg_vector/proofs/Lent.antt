-- For callers of `cell_mut`: what the cells end as, where as many bytes are left as there were.
use Rattle.std.specs.Prelude.{◌==◌, if◌then◌else◌}
use Rattle.std.proofs.Common.{ℕ, List, length, ◌≡◌, refl}
use Rattle.std.proofs.lemmas.Bool.{eq-eqb}
use Rattle.vg_vector.specs.Cells.{CellList, with_cell}
use Rattle.vg_vector.specs.Lending.{with_spill}

pub lent_whole : (all : CellList) (i : ℕ) (bytes : List ℕ) → length bytes ≡ all.size
    → (if length bytes == all.size then with_cell all i bytes else with_spill all i bytes) ≡ with_cell all i bytes
lent_whole all i bytes h = rw (eq-eqb (length bytes) all.size h) refl
