-- How the containers' contents are read as tables.
use Rattle.std.specs.Prelude.{ℕ, List, map, Some, is_some, count_by}
use Rattle.std.specs.FinMap.{entries, from_entries}
use Rattle.vg_map.specs.Map.{Indices}
use Rattle.vg_abs.specs.Tables.{KeyTable, TimeTable}

-- the keys of a map with their indices
abbrev pub key_table : Indices → KeyTable
key_table indices = from_entries (map (λ entry. (entry.0, Some entry.1)) (entries indices))

-- how many keys of a table have an index
abbrev pub indexed : KeyTable → ℕ
indexed table = count_by (λ entry. is_some entry.1) (entries table)

-- the indices that are handed out with their last times
abbrev pub age_table : List (ℕ × ℕ) → TimeTable
age_table ages = from_entries (map (λ entry. (entry.0, Some entry.1)) ages)
