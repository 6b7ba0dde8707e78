-- The tables of the library: a link's, a vector's and a prefix table's. Nothing here knows how they are kept.
use Rattle.std.specs.Prelude.{ℕ, List, Option}
use Rattle.std.specs.Ordering.{nat_cmp}
use Rattle.std.specs.Cmp.Lexicographic.{slice_cmp}
use Rattle.std.specs.FinMap.{FinMap}
use Rattle.vg_stree.specs.declared.config.Route.{Route}

-- from the bytes of a key to its index, or to none where it is told that no index has the key
abbrev pub KeyTable : Type 0
KeyTable = FinMap (slice_cmp nat_cmp) (Option ℕ)

-- from an index to its last time, or to none where it is told that the index is free
abbrev pub TimeTable : Type 0
TimeTable = FinMap nat_cmp (Option ℕ)

-- from the number of a cell to its bytes
abbrev pub CellTable : Type 0
CellTable = FinMap nat_cmp (List ℕ)

-- from a time to how many indices have an earlier one
abbrev pub BoundTable : Type 0
BoundTable = FinMap nat_cmp ℕ

-- from an address to what a look-up answers
abbrev pub AddressTable : Type 0
AddressTable = FinMap nat_cmp (Option ℕ)

-- a link: a map from keys to indices, a chain of indices with their last times, and a vector with the key of each index; how many keys
-- are mapped, how many indices are allocated, and the highest time that the chain was told. `bounds` is told by a partial state alone.
pub record Link : Type 0 where
  pub capacity : ℕ
  pub key_length : ℕ
  pub keys : KeyTable
  pub times : TimeTable
  pub cells : CellTable
  pub size : ℕ
  pub count : ℕ
  pub highest : ℕ
  pub bounds : BoundTable

-- a vector of its own: how many cells it has, and these
pub record Vector : Type 0 where
  pub cell_count : ℕ
  pub cells : CellTable

-- a prefix table: a full state has its routes, in order, and a partial one the addresses of which it tells
pub record Routing : Type 0 where
  pub routes : List Route
  pub addresses : AddressTable
