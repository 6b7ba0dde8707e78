-- A link of the real library: what is in its containers, its table, and what its calls do to the order of its indices.
use Rattle.std.specs.Prelude.{ℕ, ◌≡◌, ◌++◌, List, Bool, length, take, drop, reverse, fold, slice_get, unwrap_or, [], Some, refl}
use Rattle.std.specs.FinMap.{get, empty, len}
use Rattle.std.specs.Coded.{Coded, code_by, coded×, coded_list, coded_bool, coded_ℕ}
use Rattle.vg_map.specs.Map.{FixedMap, without_key, map_code}
use Rattle.vg_dchain.specs.ChainState.{ChainState, IsLawful, time_at, indices}
use Rattle.vg_vector.specs.Cells.{CellList}
use Rattle.vg_abs.specs.Tables.{Link}
use Rattle.vg_plain.specs.PlainTables.{cell_table}
use Rattle.vg_plain.specs.LinkStates.{LinkState}
use Rattle.vg_store.specs.RealTables.{key_table, age_table}

-- the map's keys, the chain's indices by age and those that are free, and the vector's cells
pub record Parts : Type 0 where
  pub keys : FixedMap
  pub ages : ChainState
  pub cells : CellList

abbrev pub chain_code : Coded ChainState
chain_code = code_by (ℕ × (List (ℕ × ℕ) × (List ℕ × ℕ))) (coded× coded_ℕ (coded× (coded_list (coded× coded_ℕ coded_ℕ)) (coded× (coded_list coded_ℕ) coded_ℕ)))
    (λ c. (c.range, (c.entries, (c.free, c.highest)))) (λ p. record { range = p.0; entries = p.1.0; free = p.1.1.0; highest = p.1.1.1 }) (λ _. refl)

abbrev pub cells_code : Coded CellList
cells_code = code_by (ℕ × (List (List ℕ) × List Bool)) (coded× coded_ℕ (coded× (coded_list (coded_list coded_ℕ)) (coded_list coded_bool)))
    (λ c. (c.size, (c.cells, c.lent))) (λ p. record { size = p.0; cells = p.1.0; lent = p.1.1 }) (λ _. refl)

abbrev pub parts_code : Coded Parts
parts_code = code_by (FixedMap × (ChainState × CellList)) (coded× map_code (coded× chain_code cells_code))
    (λ p. (p.keys, (p.ages, p.cells))) (λ p. record { keys = p.0; ages = p.1.0; cells = p.1.1 }) (λ _. refl)

-- the table of a link
abbrev pub link_of : Parts → Link
link_of p = record {
  capacity = p.ages.range;
  key_length = p.keys.key_len;
  keys = key_table p.keys.indices;
  times = age_table p.ages.entries;
  cells = cell_table 0 p.cells.cells;
  size = len p.keys.indices;
  count = length p.ages.entries;
  highest = p.ages.highest;
  bounds = empty;
}

-- what is seen of a link: its table, and which of its cells are lent
abbrev pub seen : Parts → LinkState
seen p = record { link = link_of p; lent = p.cells.lent }

-- the parts are of one link
pub record AreLinked (p : Parts) : Type 0 where
  pub room : p.keys.capacity ≡ p.ages.range
  pub cells : length p.cells.cells ≡ p.ages.range
  pub loans : length p.cells.lent ≡ p.ages.range
  pub size : p.cells.size ≡ p.keys.key_len
  pub long : (key : List ℕ) (index : ℕ) → get p.keys.indices key ≡ Some index → length key ≡ p.keys.key_len
  pub lawful : IsLawful p.ages

-- the cell of each index that is handed out is a key that is mapped to it
abbrev pub AreTied : FixedMap → List (ℕ × ℕ) → List (List ℕ) → Type 0
AreTied keys ages cells =
    (index time : ℕ) → time_at ages index ≡ Some time → (key : List ℕ) × (slice_get cells index ≡ Some key) × (get keys.indices key ≡ Some index)

-- the map without the keys in the cells of these indices
abbrev pub without_keys : List (List ℕ) → FixedMap → List (ℕ × ℕ) → FixedMap
without_keys cells keys ages = fold (λ left entry. without_key left (unwrap_or (slice_get cells entry.0) [])) keys ages

-- so many of the oldest indices are free; the youngest of them is handed out next
abbrev pub after_expiry : ChainState → ℕ → ChainState
after_expiry c count = record c { entries = drop count c.entries; free = reverse (indices (take count c.entries)) ++ c.free }
