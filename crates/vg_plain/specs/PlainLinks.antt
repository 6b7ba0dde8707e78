-- How a link of the list library is kept.
use Rattle.std.specs.Prelude.{◌≡◌, ◌≤◌, ◌<◌, ◌^◌, length, count_by, is_some}
use Rattle.std.specs.FinMap.{empty}
use Rattle.vg_plain.specs.PlainTables.{key_table, time_table, cell_table}
use Rattle.vg_plain.specs.LinkStates.{LinkState}
use Rattle.vg_plain.specs.declared.link.PlainLink.TheInside.{Inside}

-- slots are the keys with their indices, places the times and the cells
abbrev pub seen_link : Inside → LinkState
seen_link l = record {
  link = record {
    capacity = l.capacity;
    key_length = l.key_length;
    keys = key_table l.indices.items l.keys.cells;
    times = time_table 0 l.times.items;
    cells = cell_table 0 l.cells.cells;
    size = l.size;
    count = l.count;
    highest = l.highest;
    bounds = empty;
  };
  lent = l.cells.lent;
}

-- there is a slot, a place and a cell for each index; no more slots are used than keys are mapped, and as many places as indices are allocated
pub record IsKept (l : Inside) : Type 0 where
  pub few : l.capacity < 2 ^ 32
  pub slots : length l.indices.items ≡ l.capacity
  pub keys : length l.keys.cells ≡ l.capacity
  pub key_size : l.keys.size ≡ l.key_length
  pub places : length l.times.items ≡ l.capacity
  pub cells : length l.cells.cells ≡ l.capacity
  pub cell_size : l.cells.size ≡ l.key_length
  pub loans : length l.cells.lent ≡ l.capacity
  pub few_keys : count_by (λ index. is_some index) l.indices.items ≤ l.size
  pub size : l.size ≤ l.capacity
  pub allocated : count_by (λ time. is_some time) l.times.items ≡ l.count
