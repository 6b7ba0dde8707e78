-- What typing knows of a text at a node, and what the names there stand for.
use Rattle.std.specs.Prelude.{ℕ, ◌-◌, nat_le, nat_lt, List, [], ◌∷◌, length, take, drop, Bool, true, false, ◌&&◌, Option, Some, None, if◌then◌else◌}
use Rattle.std.specs.Str.{bytes_eq}
use Rattle.vg_core.specs.Syntax.{Syntax, listed}
use Rattle.vg_core.specs.Library.{row_named}
use Rattle.vg_core.specs.declared.tree.Name.{Name}
use Rattle.vg_core.specs.declared.tree.Node.{Node}
use Rattle.vg_core.specs.declared.tree.Kind.{Kind}
use Rattle.vg_core.specs.declared.tree.Kind.TheVariants as nodes
use Rattle.vg_core.specs.declared.unit.Note.{Note}
use Rattle.vg_core.specs.declared.unit.Referent.{Referent}
use Rattle.vg_core.specs.declared.unit.Referent.TheVariants as referents
use Rattle.vg_cscope.specs.declared.standing.Standing.{Standing}
use Rattle.vg_cscope.specs.declared.names.Wanted.{Wanted}
use Rattle.vg_cscope.specs.declared.names.Wanted.TheVariants as wanted
use Rattle.vg_cscope.specs.Scopes.{kind_at}
use Rattle.vg_cscope.specs.Names.{scoped, spelling, is_function, field_name}
use Rattle.vg_cscope.specs.Names as scoping

-- what typing knows of a text when it comes to a node: the bytes, the tree, where each node stands, and notes on the nodes before
pub record Known : Type 0 where
  pub text : List ℕ
  pub tree : Syntax
  pub standings : List Standing
  pub notes : List Note

abbrev pub is_same : Known → Name → Name → Bool
is_same k a b = scoping.is_same k.text a b

abbrev pub is_named : Known → Name → Option Name → Bool
is_named k name other = scoping.is_named k.text name other

-- the last of the declarations that a node sees that is what is looked for
abbrev pub found : Known → Wanted → ℕ → Option ℕ
found k what n = scoping.found (scoped k.text k.tree k.standings) what n

-- what a name stands for that is used as a variable
abbrev pub as_variable : Known → Option ℕ → Option Referent
as_variable k None = None
as_variable k (Some d) = if is_function (kind_at k.tree d) then None else Some (referents.Declared d)

abbrev pub variable : Known → ℕ → Name → Option Referent
variable k n name = as_variable k (found k (wanted.Ordinary name) n)

abbrev pub as_row : Option ℕ → Option Referent
as_row None = None
as_row (Some row) = Some (referents.Library row)

-- what a name stands for that is called: a function that is whole, or where nothing has the name, a call of the library
abbrev pub as_callee : Known → Name → Option ℕ → Option Referent
as_callee k name None = as_row (row_named (spelling k.text name))
as_callee k name (Some d) = if is_function (kind_at k.tree d) && nat_lt d (length k.notes) then Some (referents.Declared d) else None

abbrev pub callee : Known → ℕ → Name → Option Referent
callee k n name = as_callee k name (found k (wanted.Ordinary name) n)

-- the field with a name among those listed
abbrev pub field_among : Known → Name → List ℕ → Option ℕ
field_among k name [] = None
field_among k name (field ∷ fields) = if is_named k name (field_name (kind_at k.tree field)) then Some field else field_among k name fields

abbrev pub fields_of : Syntax → Kind → List ℕ
fields_of tree (nodes.Struct tag fields attribute) = listed tree.items fields
fields_of tree _ = []

-- the field of a struct with a name
abbrev pub field_named : Known → ℕ → Name → Option ℕ
field_named k tag name = field_among k name (fields_of k.tree (kind_at k.tree tag))
