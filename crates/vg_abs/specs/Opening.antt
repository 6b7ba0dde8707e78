-- When a configuration is valid for a specification, and the state that it opens with: empty maps, free chains, and cells of zeros but for
-- what the configuration fills.
use Rattle.std.specs.Prelude.{ℕ, zero, suc, ◌+◌, ◌-◌, ◌*◌, ◌/◌, ◌≡◌, ◌<◌, ◌≤◌, ◌^◌, ◌==◌, ◌&&◌, not, List, [], ◌∷◌, length, fold, replicate, All}
use Rattle.std.specs.Prelude.{Bool, true, slice_get, unwrap_or, Some, None, if◌then◌else◌, Option}
use Rattle.std.specs.List.{list_any}
use Rattle.std.specs.FinMap.{get, insert, empty}
use Rattle.vg_stree.specs.declared.config.Route.{Route}
use Rattle.vg_stree.specs.declared.config.Fill.{Fill}
use Rattle.vg_stree.specs.declared.shape.Number.{Number}
use Rattle.vg_stree.specs.declared.shape.Field.{Field}
use Rattle.vg_stree.specs.declared.shape.FieldType.{FieldType}
use Rattle.vg_stree.specs.declared.shape.Object as objects
use Rattle.vg_stree.specs.declared.shape.ObjectKind.{ObjectKind}
use Rattle.vg_stree.specs.declared.shape.ObjectKind.TheVariants as kinds
use Rattle.vg_stree.specs.Declarations.{Declarations, field_bytes, fields_of, struct_bytes, field_place}
use Rattle.vg_stree.specs.Specification.{Specification}
use Rattle.vg_stree.specs.Configuration.{Configuration}
use Rattle.vg_abs.specs.declared.object.Object.{Object}
use Rattle.vg_abs.specs.declared.object.Object.TheVariants.{Map, Chain, Keys, Cells, Prefixes}
use Rattle.vg_abs.specs.Tables.{Link, CellTable}
use Rattle.vg_abs.specs.State.{State}
use Rattle.vg_abs.specs.Fields.{with_field}
use Rattle.vg_abs.specs.Expressions.{PremiseHolds}
use Rattle.vg_abs.specs.Shape.{size_of}
use Rattle.vg_abs.specs.Lawful.{Holds, IsLawful, IsLawfulLink}

-- so many cells of so many zeros
abbrev pub zero_cells : ℕ → ℕ → CellTable
zero_cells zero bytes = empty
zero_cells (suc count) bytes = insert (zero_cells count bytes) count (replicate bytes 0)

-- a field of a cell holds what a fill says
abbrev pub with_field_at : ℕ → FieldType → CellTable → Fill → CellTable
with_field_at place of cells fill = insert cells fill.index (with_field place of fill.value (unwrap_or (get cells fill.index) []))

-- the cells of a vector after a fill of a field that may be there
abbrev pub filled : ℕ → CellTable → Fill → Option Field → CellTable
filled place cells fill None = cells
filled place cells fill (Some field) = with_field_at place field.of cells fill

-- the cells of a vector after a fill, which counts where it is of this vector
abbrev pub with_fill : Declarations → ℕ → ℕ → CellTable → Fill → CellTable
with_fill shape cell vector cells fill =
    if fill.vector == vector then filled (field_place shape cell fill.field) cells fill (slice_get (fields_of shape cell) fill.field) else cells

-- the cells of a vector at the start; of two fills of one field the later counts
abbrev pub opening_cells : Declarations → List Fill → ℕ → ℕ → ℕ → CellTable
opening_cells shape fills vector cell count = fold (with_fill shape cell vector) (zero_cells count (struct_bytes shape cell)) fills

-- the first `len` bits of a route's address, and `len`, which is below 256, as one number: two routes have one prefix where it is equal
abbrev pub prefix_of : Route → ℕ
prefix_of route = route.address / 2 ^ (32 - route.len) * 256 + route.len

-- a route is of a table and has a prefix
abbrev pub has_prefix : ℕ → ℕ → Route → Bool
has_prefix table prefix route = (route.table == table) && (prefix_of route == prefix)

-- the routes of a table, in order, without those that a later one of equal prefix replaces
abbrev pub routes_of : ℕ → List Route → List Route
routes_of table [] = []
routes_of table (route ∷ routes) =
    if (route.table == table) && not (list_any (has_prefix table (prefix_of route)) routes) then route ∷ routes_of table routes else routes_of table routes

-- a link at the start
abbrev pub opening_link : ℕ → ℕ → Link
opening_link capacity key_length = record {
  capacity = capacity;
  key_length = key_length;
  keys = empty;
  times = empty;
  cells = zero_cells capacity key_length;
  size = 0;
  count = 0;
  highest = 0;
  bounds = empty;
}

-- an object at the start
abbrev pub opening_object : Declarations → Configuration → ℕ → ObjectKind → Object
opening_object shape config number (kinds.Map key capacity) = Map (opening_link (size_of config.numbers capacity) (struct_bytes shape key))
opening_object shape config number kinds.Chain = Chain
opening_object shape config number kinds.Keys = Keys
opening_object shape config number (kinds.Vector cell count) = Cells (record {
  cell_count = size_of config.numbers count;
  cells = opening_cells shape config.fills number cell (size_of config.numbers count);
})
opening_object shape config number (kinds.Table low high) = Prefixes (record { routes = routes_of number config.routes; addresses = empty })

-- the objects at the start, the first of which has this number
abbrev pub opening_objects : Declarations → Configuration → ℕ → List objects.Object → List Object
opening_objects shape config number [] = []
opening_objects shape config number (declared ∷ more) = opening_object shape config number declared.kind ∷ opening_objects shape config (number + 1) more

-- the state at the start
abbrev pub opening : Specification → Configuration → State
opening spec config = record { full = true; objects = opening_objects spec.shape config 0 spec.shape.objects }

-- a number lies in its range
abbrev pub IsInRange : Number → ℕ → Type 0
IsInRange number value = (number.low ≤ value) × (value ≤ number.high)

-- each number of the configuration lies in its range
pub record AreInRange (shape : Declarations) (numbers : List ℕ) : Type 0 where
  pub as_many : length numbers ≡ length shape.numbers
  pub each : (place : ℕ) (number : Number) (value : ℕ) → slice_get shape.numbers place ≡ Some number → slice_get numbers place ≡ Some value
      → IsInRange number value

-- a route is of a prefix table, has at most 32 bits, and a value in the table's range
abbrev pub FitsKind : Route → ObjectKind → Type 0
FitsKind route (kinds.Table low high) = (route.len ≤ 32) × (low ≤ route.value) × (route.value ≤ high)
FitsKind route _ = ⊥

abbrev pub FitsTable : Declarations → Route → Type 0
FitsTable shape route = (object : objects.Object) × (slice_get shape.objects route.table ≡ Some object) × FitsKind route object.kind

-- a fill is of a vector of its own, of one of its cells, and of a field that holds its value
abbrev pub FitsCells : Declarations → List ℕ → Fill → ObjectKind → Type 0
FitsCells shape numbers fill (kinds.Vector cell count) =
    (fill.index < size_of numbers count) × ((field : Field) × (slice_get (fields_of shape cell) fill.field ≡ Some field)
    × (fill.value < 256 ^ field_bytes field.of))
FitsCells shape numbers fill _ = ⊥

abbrev pub FitsVector : Declarations → List ℕ → Fill → Type 0
FitsVector shape numbers fill = (object : objects.Object) × (slice_get shape.objects fill.vector ≡ Some object) × FitsCells shape numbers fill object.kind

-- a configuration is valid
pub record IsValid (spec : Specification) (config : Configuration) : Type 0 where
  pub numbers : AreInRange spec.shape config.numbers
  pub few_routes : length config.routes ≤ 65536
  pub routes : All (FitsTable spec.shape) config.routes
  pub fills : All (FitsVector spec.shape config.numbers) config.fills
  pub premises : All (PremiseHolds spec.code config.numbers) spec.shape.premises
  pub rules : All (Holds spec config.numbers (opening spec config)) spec.shape.rules

-- a link is lawful at the start
abbrev pub LinkOpensLawful : Type 0
LinkOpensLawful = (capacity key_length : ℕ) → IsLawfulLink 0 (opening_link capacity key_length)

-- the state that a valid configuration opens with is lawful at the time 0
abbrev pub StateOpensLawful : Type 0
StateOpensLawful = (spec : Specification) (config : Configuration) → IsValid spec config → IsLawful spec config.numbers 0 (opening spec config)
