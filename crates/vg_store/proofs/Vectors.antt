-- What a write leaves of a vector.
use Rattle.std.proofs.Common.{◌≡◌, ℕ, ◌+◌, ◌<◌, List, [], ◌++◌, length, take, drop, get_or, slice_get, Some, ◌∙◌, ap}
use Rattle.std.proofs.lemmas.List.{length-set}
use Rattle.std.proofs.lemmas.Option.{slice_get-get_or}
use Rattle.vg_vector.specs.Cells.{CellList, with_cell}

-- as many cells, of which as many are lent
pub written_counts : (count i from : ℕ) (bytes : List ℕ) (was now : CellList) → (length was.lent ≡ count) × (length was.cells ≡ count) → i < length was.cells →
    ((cell : List ℕ) → slice_get was.cells i ≡ Some cell → now ≡ with_cell was i (take from cell ++ bytes ++ drop (from + length bytes) cell))
    → (length now.lent ≡ count) × (length now.cells ≡ count)
written_counts count i from bytes was now counts inside is =
    let cell = get_or was.cells i [] in
    let now_is = is cell (slice_get-get_or was.cells i [] inside) in (
      ap (λ (v : CellList). length v.lent) now_is ∙ counts.0,
      ap (λ (v : CellList). length v.cells) now_is ∙ length-set was.cells i (take from cell ++ bytes ++ drop (from + length bytes) cell) ∙ counts.1,
    )
