-- How the lists of the list library are read as tables.
use Rattle.std.specs.Prelude.{ℕ, suc, List, [], ◌∷◌, Option, Some, None, if◌then◌else◌}
use Rattle.std.specs.Str.{bytes_eq}
use Rattle.std.specs.FinMap.{insert, empty}
use Rattle.vg_abs.specs.Tables.{KeyTable, TimeTable, CellTable}

-- the keys in slots that are used, with their indices; of two slots with one key the first counts
abbrev pub key_table : List (Option ℕ) → List (List ℕ) → KeyTable
key_table [] keys = empty
key_table (index ∷ indices) [] = empty
key_table (None ∷ indices) (key ∷ keys) = key_table indices keys
key_table (Some index ∷ indices) (key ∷ keys) = insert (key_table indices keys) key (Some index)

-- the times of allocated indices, the first of which has this number
abbrev pub time_table : ℕ → List (Option ℕ) → TimeTable
time_table number [] = empty
time_table number (None ∷ times) = time_table (suc number) times
time_table number (Some time ∷ times) = insert (time_table (suc number) times) number (Some time)

-- the bytes of cells, the first of which has this number
abbrev pub cell_table : ℕ → List (List ℕ) → CellTable
cell_table number [] = empty
cell_table number (bytes ∷ cells) = insert (cell_table (suc number) cells) number bytes

-- the slots without those of a key
abbrev pub without_slots : List ℕ → List (Option ℕ) → List (List ℕ) → List (Option ℕ)
without_slots key [] keys = []
without_slots key (index ∷ indices) [] = index ∷ indices
without_slots key (index ∷ indices) (other ∷ keys) = (if bytes_eq key other then None else index) ∷ without_slots key indices keys

-- what a table from keys or indices lists, where a full state lists no absent one
abbrev pub joined : {X : Type 0} → Option (Option X) → Option X
joined None = None
joined (Some answer) = answer
