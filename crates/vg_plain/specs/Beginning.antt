-- What the list library asks of an object at the start, and what it makes of it.
use Rattle.std.specs.Prelude.{ℕ, ◌≡◌, ◌<◌, List, length, Bool, false, Some, IsSome, All}
use Rattle.std.specs.FinMap.{get, empty}
use Rattle.vg_stree.specs.declared.shape.ObjectKind.{ObjectKind}
use Rattle.vg_stree.specs.declared.shape.ObjectKind.TheVariants as kinds
use Rattle.vg_stree.specs.Declarations.{Declarations, struct_bytes}
use Rattle.vg_abs.specs.declared.object.Object.{Object}
use Rattle.vg_abs.specs.declared.object.Object.TheVariants as objects
use Rattle.vg_abs.specs.Tables.{CellTable, Vector}
use Rattle.vg_abs.specs.Opening.{opening_link}
use Rattle.vg_plain.specs.declared.object.PlainObject.{PlainObject}
use Rattle.vg_plain.specs.declared.object.PlainObject.TheVariants.{Map, Cells}

-- so many cells of so many bytes, and no more
pub record AreWhole (count size : ℕ) (cells : CellTable) : Type 0 where
  pub there : (index : ℕ) → index < count → IsSome (get cells index)
  pub inside : (index : ℕ) (bytes : List ℕ) → get cells index ≡ Some bytes → index < count
  pub sized : (index : ℕ) (bytes : List ℕ) → get cells index ≡ Some bytes → length bytes ≡ size

-- a vector of its own has all its cells, each of its struct's size
abbrev pub BeginsCells : Declarations → ObjectKind → Vector → Type 0
BeginsCells shape (kinds.Vector cell count) vector = AreWhole vector.cell_count (struct_bytes shape cell) vector.cells
BeginsCells shape _ vector = ⊥

-- an object at the start
abbrev pub Begins : Declarations → ObjectKind → Object → Type 0
Begins shape kind (objects.Map link) = link ≡ opening_link link.capacity link.key_length
Begins shape kind objects.Chain = Unit {0}
Begins shape kind objects.Keys = Unit {0}
Begins shape kind (objects.Cells vector) = BeginsCells shape kind vector
Begins shape kind (objects.Prefixes prefixes) = prefixes.addresses ≡ empty

-- no cell of an object is lent
abbrev pub AreFree : List Bool → Type 0
AreFree lent = All (λ one. one ≡ false) lent

abbrev pub NoneIsLent : PlainObject → Type 0
NoneIsLent (Map link) = AreFree link.lent
NoneIsLent (Cells cells) = AreFree cells.lent
NoneIsLent _ = Unit {0}
