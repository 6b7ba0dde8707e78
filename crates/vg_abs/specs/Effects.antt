-- What calls of the library do to a state. Each change of a link ends what a partial state tells of its expiry bounds, since that speaks of
-- the state before.
use Rattle.std.specs.Option.{option_map}
use Rattle.std.specs.Prelude.{ℕ, ◌≡◌, ◌+◌, ◌-◌, ◌&&◌, not, List, map, Bool, true, false, nat_eq, Option, Some, None, slice_get, slice_set, if◌then◌else◌}
use Rattle.std.specs.Str.{bytes_eq}
use Rattle.std.specs.List.{list_any}
use Rattle.std.specs.FinMap.{FinMap, get, insert, empty, entries, retain_keys, from_sorted}
use Rattle.std.specs.declared.cmp.Ordering.{Ordering}
use Rattle.vg_abs.specs.declared.object.Object.{Object}
use Rattle.vg_abs.specs.declared.object.Object.TheVariants.{Map, Cells, Keys}
use Rattle.vg_abs.specs.Tables.{Link}
use Rattle.vg_abs.specs.State.{State, link_of_keys}
use Rattle.vg_abs.specs.Answers.{time_of, is_before}

-- what passes a test is absent, or free: a full state doesn't list it any more, and a partial one that lists it tells so
abbrev pub without : {K X : Type 0} {R : K → K → Ordering} → Bool → (K → Bool) → FinMap R (Option X) → FinMap R (Option X)
without true gone table = retain_keys table (λ k. not (gone k))
without false gone table = from_sorted (map (λ entry. (entry.0, if gone entry.0 then None else entry.1)) (entries table))

-- a key is mapped to an index
abbrev pub with_key : Link → List ℕ → ℕ → Link
with_key link key index = record link { keys = insert link.keys key (Some index); size = link.size + 1; bounds = empty }

-- a key is absent
abbrev pub without_key : Bool → Link → List ℕ → Link
without_key full link key = record link { keys = without full (bytes_eq key) link.keys; size = link.size - 1; bounds = empty }

-- a free index is allocated, with this time
abbrev pub with_index : Link → ℕ → ℕ → Link
with_index link index now = record link { times = insert link.times index (Some now); count = link.count + 1; highest = now; bounds = empty }

-- an allocated index has this time
abbrev pub with_time : Link → ℕ → ℕ → Link
with_time link index now = record link { times = insert link.times index (Some now); highest = now; bounds = empty }

-- an index is free
abbrev pub without_index : Bool → Link → ℕ → Link
without_index full link index = record link { times = without full (nat_eq index) link.times; count = link.count - 1; bounds = empty }

-- whether an index is allocated with a time before a bound
abbrev pub expires : Bool → Link → ℕ → ℕ → Bool
expires full link bound index = is_before bound (time_of full link index)

-- whether a cell that may be told holds a key
abbrev pub is_key_of : Option (List ℕ) → List ℕ → Bool
is_key_of None key = false
is_key_of (Some cell) key = bytes_eq cell key

-- whether a key is that in the cell of an index that expires
abbrev pub key_expires : Link → ℕ → List ℕ → Bool
key_expires link bound key = list_any (λ entry. is_before bound (Some entry.1) && is_key_of (get link.cells entry.0) key) (entries link.times)

-- exactly the indices with a time before a bound are free, and the keys of their cells absent; the cells stay
abbrev pub expired : Bool → Link → ℕ → ℕ → Link
expired full link bound freed = record link {
  keys = without full (key_expires link bound) link.keys;
  times = without full (expires full link bound) link.times;
  size = link.size - freed;
  count = link.count - freed;
  bounds = empty;
}

-- a cell holds these bytes
abbrev pub with_cell : Link → ℕ → List ℕ → Link
with_cell link index bytes = record link { cells = insert link.cells index bytes; bounds = empty }

-- the link with a map is this now
abbrev pub with_link : State → ℕ → Link → State
with_link s map link = record s { objects = slice_set s.objects map (Map link) }

-- a cell of a vector holds these bytes, given its object
abbrev pub with_bytes_in : State → ℕ → ℕ → List ℕ → Option Object → State
with_bytes_in s vector index bytes (Some (Cells cells)) =
    record s { objects = slice_set s.objects vector (Cells (record cells { cells = insert cells.cells index bytes })) }
with_bytes_in s vector index bytes (Some Keys) = with_link s (vector - 2) (with_cell (link_of_keys s vector) index bytes)
with_bytes_in s vector index bytes _ = s

-- a cell of a vector holds these bytes
abbrev pub with_bytes : State → ℕ → ℕ → List ℕ → State
with_bytes s vector index bytes = with_bytes_in s vector index bytes (slice_get s.objects vector)

-- what a table tells after that: a full state's lists no key that passes the test, and a partial one's tells of each that it lists that it is
-- absent, or free; of all others both tell what they told
pub record Forgets {K : Type 0} (R : K → K → Ordering) : Type 0 where
  pub of_full : (gone : K → Bool) (table : FinMap R (Option ℕ)) (k : K) → get (without true gone table) k ≡ (if gone k then None else get table k)
  pub of_part : (gone : K → Bool) (table : FinMap R (Option ℕ)) (k : K) → get (without false gone table) k ≡ option_map
      (λ answer. if gone k then None else answer) (get table k)
