-- What is seen of the list library.
use Rattle.std.specs.Prelude.{ℕ, ◌-◌, List, map, length, Bool, true, false, Option, Some, None, slice_get, unwrap_or, nat_lt, if◌then◌else◌}
use Rattle.std.specs.FinMap.{empty}
use Rattle.vg_abs.specs.declared.object.Object.{Object}
use Rattle.vg_abs.specs.declared.object.Object.TheVariants as objects
use Rattle.vg_abs.specs.State.{State}
use Rattle.vg_abs.specs.Library.{Library}
use Rattle.vg_plain.specs.declared.object.PlainObject.{PlainObject}
use Rattle.vg_plain.specs.declared.object.PlainObject.TheVariants.{Map, Chain, Keys, Cells, Prefixes}
use Rattle.vg_plain.specs.declared.plain.PlainLib.{PlainLib}
use Rattle.vg_abs.specs.Tables.{Link}
use Rattle.vg_plain.specs.LinkStates.{LinkState}
use Rattle.vg_plain.specs.PlainTables.{cell_table}

-- an object
abbrev pub object_of : PlainObject → Object
object_of (Map link) = objects.Map link.link
object_of Chain = objects.Chain
object_of Keys = objects.Keys
object_of (Cells cells) = objects.Cells (record { cell_count = length cells.cells; cells = cell_table 0 cells.cells })
object_of (Prefixes routes) = objects.Prefixes (record { routes = routes.items; addresses = empty })

-- the state is full
abbrev pub state_of : List PlainObject → State
state_of kept = record { full = true; objects = map object_of kept }

-- whether a cell of a vector is lent
abbrev pub lent_of_link : Option PlainObject → ℕ → Bool
lent_of_link (Some (Map link)) index = unwrap_or (slice_get link.lent index) false
lent_of_link _ index = false

abbrev pub lent_at : List PlainObject → ℕ → ℕ → Option PlainObject → Bool
lent_at kept vector index (Some (Cells cells)) = unwrap_or (slice_get cells.lent index) false
lent_at kept vector index (Some Keys) = if nat_lt 1 vector then lent_of_link (slice_get kept (vector - 2)) index else false
lent_at kept vector index _ = false

abbrev pub lent_in : List PlainObject → ℕ → ℕ → Bool
lent_in kept vector index = lent_at kept vector index (slice_get kept vector)

-- it misses nothing, and tells no choices
abbrev pub library_of : PlainLib → Library
library_of library = record {
  state = state_of library.objects.items;
  lent = lent_in library.objects.items;
  missed = false;
  choices = None;
}

-- the object with the cells of a vector: itself, or the map of its link
abbrev pub holder_by : ℕ → Option PlainObject → ℕ
holder_by vector (Some Keys) = vector - 2
holder_by vector _ = vector

abbrev pub holder_of : List PlainObject → ℕ → ℕ
holder_of kept vector = holder_by vector (slice_get kept vector)

-- the link of an object that may be a map
abbrev pub plain_link : Option PlainObject → Option LinkState
plain_link (Some (Map link)) = Some link
plain_link _ = None

abbrev pub table_in : Option Object → Option Link
table_in (Some (objects.Map link)) = Some link
table_in _ = None
