-- A state has the shape that a specification and the configuration's numbers give it: for each declared object one of its kind, with its
-- sizes. Keys and cells have as many bytes as their structs.
use Rattle.std.specs.Prelude.{ℕ, ◌≡◌, ◌-◌, ◌<◌, ◌^◌, List, length, All, slice_get, Option, Some, None}
use Rattle.std.specs.FinMap.{get}
use Rattle.vg_stree.specs.declared.shape.Size.{Size}
use Rattle.vg_stree.specs.declared.shape.Size.TheVariants as sizes
use Rattle.vg_stree.specs.declared.shape.ObjectKind.{ObjectKind}
use Rattle.vg_stree.specs.declared.shape.ObjectKind.TheVariants as kinds
use Rattle.vg_stree.specs.declared.shape.Object as objects
use Rattle.vg_stree.specs.Declarations.{Declarations, struct_bytes}
use Rattle.vg_abs.specs.declared.object.Object.{Object}
use Rattle.vg_abs.specs.declared.object.Object.TheVariants.{Map, Chain, Keys, Cells, Prefixes}
use Rattle.vg_abs.specs.Tables.{Link, Vector, CellTable, KeyTable}
use Rattle.vg_abs.specs.State.{State}
use Rattle.vg_abs.specs.Expressions.{value_at}

-- a capacity or a length, by the configuration's numbers
abbrev pub size_of : List ℕ → Size → ℕ
size_of numbers (sizes.Count count) = count
size_of numbers (sizes.Number number) = value_at numbers number

-- so many bytes
pub record AreBytes (count : ℕ) (bytes : List ℕ) : Type 0 where
  pub counted : length bytes ≡ count
  pub small : All (λ byte. byte < 2 ^ 8) bytes

-- each told key has so many bytes
abbrev pub KeysHave : ℕ → KeyTable → Type 0
KeysHave count keys = (key : List ℕ) (answer : Option ℕ) → get keys key ≡ Some answer → AreBytes count key

-- each told cell has so many bytes
abbrev pub CellsHave : ℕ → CellTable → Type 0
CellsHave count cells = (index : ℕ) (bytes : List ℕ) → get cells index ≡ Some bytes → AreBytes count bytes

-- a link as declared
pub record IsLinkOf (shape : Declarations) (numbers : List ℕ) (key : ℕ) (capacity : Size) (link : Link) : Type 0 where
  pub capacity_is : link.capacity ≡ size_of numbers capacity
  pub key_length_is : link.key_length ≡ struct_bytes shape key
  pub keys_have : KeysHave link.key_length link.keys
  pub cells_have : CellsHave link.key_length link.cells

-- a vector as declared
pub record IsVectorOf (shape : Declarations) (numbers : List ℕ) (cell : ℕ) (count : Size) (vector : Vector) : Type 0 where
  pub count_is : vector.cell_count ≡ size_of numbers count
  pub cells_have : CellsHave (struct_bytes shape cell) vector.cells

-- an object as declared
abbrev pub IsObjectOf : Declarations → List ℕ → ObjectKind → Object → Type 0
IsObjectOf shape numbers (kinds.Map key capacity) (Map link) = IsLinkOf shape numbers key capacity link
IsObjectOf shape numbers kinds.Chain Chain = Unit {0}
IsObjectOf shape numbers kinds.Keys Keys = Unit {0}
IsObjectOf shape numbers (kinds.Vector cell count) (Cells vector) = IsVectorOf shape numbers cell count vector
IsObjectOf shape numbers (kinds.Table low high) (Prefixes prefixes) = Unit {0}
IsObjectOf shape numbers _ _ = ⊥

-- a state as declared
pub record IsShaped (shape : Declarations) (numbers : List ℕ) (s : State) : Type 0 where
  pub as_many : length s.objects ≡ length shape.objects
  pub each : (number : ℕ) (declared : objects.Object) (object : Object) → slice_get shape.objects number ≡ Some declared
      → slice_get s.objects number ≡ Some object →
      IsObjectOf shape numbers declared.kind object

-- the struct of a map's keys, by its number; 0 where the object is no map
abbrev pub key_struct_of : ObjectKind → ℕ
key_struct_of (kinds.Map key capacity) = key
key_struct_of _ = 0

abbrev pub key_struct_in : Option objects.Object → ℕ
key_struct_in None = 0
key_struct_in (Some object) = key_struct_of object.kind

-- the struct of a vector's cells: its own, or that of the keys of the map two objects before
abbrev pub cell_struct_of : Declarations → ℕ → ObjectKind → ℕ
cell_struct_of shape vector (kinds.Vector cell count) = cell
cell_struct_of shape vector _ = key_struct_in (slice_get shape.objects (vector - 2))

abbrev pub cell_struct_in : Declarations → ℕ → Option objects.Object → ℕ
cell_struct_in shape vector None = 0
cell_struct_in shape vector (Some object) = cell_struct_of shape vector object.kind

abbrev pub cell_struct : Declarations → ℕ → ℕ
cell_struct shape vector = cell_struct_in shape vector (slice_get shape.objects vector)
