-- How private functions expire the indices of a full state's link. No public clause cites this: `Effects` says what expiry leaves.
use Rattle.std.specs.Prelude.{ℕ, ◌&&◌, List, map, filter, nat_eq, nat_lt, true, Bool, Some, count_by}
use Rattle.std.specs.List.{list_any}
use Rattle.std.specs.FinMap.{get, entries}
use Rattle.vg_abs.specs.Tables.{Link, TimeTable, CellTable}
use Rattle.vg_abs.specs.Answers.{is_before}
use Rattle.vg_abs.specs.Effects.{is_key_of, expired}

-- the indices with a time before a bound
abbrev pub early : ℕ → TimeTable → List ℕ
early bound times = map (λ entry. entry.0) (filter (λ entry. is_before bound (Some entry.1)) (entries times))

-- whether a key is that in one of some cells
abbrev pub is_in_one : CellTable → List ℕ → List ℕ → Bool
is_in_one cells indices key = list_any (λ index. is_key_of (get cells index) key) indices

-- whether an index is this one, and below a capacity
abbrev pub is_below : ℕ → ℕ → ℕ → Bool
is_below capacity one index = nat_eq one index && nat_lt one capacity

-- whether an index is one of some, and below a capacity
abbrev pub is_one_below : ℕ → List ℕ → ℕ → Bool
is_one_below capacity indices index = list_any (λ one. is_below capacity one index) indices

-- a full state's link once its indices with a time before a bound have expired
abbrev pub expired_link : Link → ℕ → Link
expired_link link bound = expired true link bound (count_by (λ entry. is_before bound (Some entry.1)) (entries link.times))
