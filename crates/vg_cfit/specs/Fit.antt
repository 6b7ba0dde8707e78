-- Where a C text and a specification fit: each extern is a number or an object of the specification, and each of its structs is one of C's.
use Rattle.std.specs.Prelude.{ℕ, ◌*◌, ◌==◌, List, [], ◌∷◌, Bool, true, false, ◌&&◌, not, Option, Some, None, slice_get}
use Rattle.std.specs.Prelude.{if◌then◌else◌, Result, Ok, Err, ⊤}
use Rattle.std.specs.Str.{bytes_eq}
use Rattle.vg_core.specs.Syntax.{Syntax}
use Rattle.vg_core.specs.Syntax as tree
use Rattle.vg_core.specs.Units.{Typed}
use Rattle.vg_core.specs.declared.tree.HandleKind.{HandleKind}
use Rattle.vg_core.specs.declared.tree.HandleKind.TheVariants as handles
use Rattle.vg_core.specs.declared.tree.Kind.{Kind}
use Rattle.vg_core.specs.declared.tree.Kind.TheVariants as nodes
use Rattle.vg_core.specs.declared.tree.Name.{Name}
use Rattle.vg_core.specs.declared.tree.Node.{Node}
use Rattle.vg_core.specs.declared.tree.Parts.{Parts}
use Rattle.vg_core.specs.declared.types.CType.{CType}
use Rattle.vg_core.specs.declared.types.CType.TheVariants as types
use Rattle.vg_core.specs.declared.types.Integer.{Integer}
use Rattle.vg_core.specs.declared.types.Target.TheVariants as targets
use Rattle.vg_core.specs.declared.unit.Note.{Note}
use Rattle.vg_cint.specs.Types.{integer_of}
use Rattle.vg_cscope.specs.Names.{spelling}
use Rattle.vg_stree.specs.Names.{spelled_at}
use Rattle.vg_stree.specs.Declarations.{width_bytes}
use Rattle.vg_stree.specs.Syntax.{listed}
use Rattle.vg_stree.specs.Specification.{Specification, declares}
use Rattle.vg_stree.specs.declared.shape.Field.{Field}
use Rattle.vg_stree.specs.declared.shape.FieldType.{FieldType}
use Rattle.vg_stree.specs.declared.shape.FieldType.TheVariants as fields
use Rattle.vg_stree.specs.declared.shape.Number.{Number}
use Rattle.vg_stree.specs.declared.shape.Object.{Object}
use Rattle.vg_stree.specs.declared.shape.ObjectKind.{ObjectKind}
use Rattle.vg_stree.specs.declared.shape.ObjectKind.TheVariants as objects
use Rattle.vg_stree.specs.declared.shape.Struct.{Struct}
use Rattle.vg_cfit.specs.Bindings.{binding}
use Rattle.vg_cfit.specs.declared.binding.Binding.{Binding}
use Rattle.vg_cfit.specs.declared.binding.Binding.TheVariants as bindings
use Rattle.vg_cfit.specs.declared.misfit.Misfit.{Misfit}
use Rattle.vg_cfit.specs.declared.misfit.Misfit.TheVariants as misfits
use Rattle.vg_cfit.specs.declared.misfit.Place.TheVariants as places

-- an extern number has the width of the declared number, whatever its sign
abbrev pub number_fits : Integer → Option Number → Bool
number_fits of None = false
number_fits of (Some number) = of.bits == 8 * width_bytes number.of

-- a handle is for objects of its kind; a link's keys are a vector
abbrev pub handle_fits_kind : HandleKind → ObjectKind → Bool
handle_fits_kind handles.Map (objects.Map key capacity) = true
handle_fits_kind handles.Chain objects.Chain = true
handle_fits_kind handles.Vector objects.Keys = true
handle_fits_kind handles.Vector (objects.Vector cell count) = true
handle_fits_kind handles.Prefix (objects.Table low high) = true
handle_fits_kind _ _ = false

abbrev pub handle_fits : HandleKind → Option Object → Bool
handle_fits handle None = false
handle_fits handle (Some object) = handle_fits_kind handle object.kind

-- an extern fits what its name is bound to
abbrev pub extern_fits : Specification → Kind → Binding → Bool
extern_fits spec (nodes.ExternNumber of name) (bindings.Number number) = number_fits (integer_of of) (slice_get spec.shape.numbers number)
extern_fits spec (nodes.ExternHandle handle name) (bindings.Object object) = handle_fits handle (slice_get spec.shape.objects object)
extern_fits spec _ _ = false

-- what is wrong with an extern whose name stands at a place
abbrev pub bound_fault : Specification → Kind → ℕ → List ℕ → Option Binding → Option Misfit
bound_fault spec kind at word None = Some (if declares spec word then misfits.Kind at else misfits.Missing (places.Text at))
bound_fault spec kind at word (Some to) = if extern_fits spec kind to then None else Some (misfits.Kind at)

abbrev pub name_fault : Specification → Kind → ℕ → List ℕ → Option Misfit
name_fault spec kind at word = bound_fault spec kind at word (binding spec word)

abbrev pub extern_name : Kind → Option Name
extern_name (nodes.ExternNumber of name) = Some name
extern_name (nodes.ExternHandle handle name) = Some name
extern_name _ = None

abbrev pub named_fault : List ℕ → Specification → Kind → Option Name → Option Misfit
named_fault text spec kind None = None
named_fault text spec kind (Some name) = name_fault spec kind name.from (spelling text name)

-- what is wrong with a node where it is an extern
abbrev pub extern_fault : List ℕ → Specification → Node → Option Misfit
extern_fault text spec node = named_fault text spec node.kind (extern_name node.kind)

-- `u8` to `u64` are the unsigned types, and `bN` is an array of N bytes
abbrev pub type_fits : CType → FieldType → Bool
type_fits (types.Int bits signed) (fields.Number width) = bits == 8 * width_bytes width && not signed
type_fits (types.Array (targets.Int bits signed) many) (fields.Bytes count) = bits == 8 && not signed && many == count
type_fits _ _ = false

abbrev pub noted_fits : Option CType → FieldType → Bool
noted_fits None of = false
noted_fits (Some type) of = type_fits type of

abbrev pub field_fits : Option Note → FieldType → Bool
field_fits None of = false
field_fits (Some note) of = noted_fits note.of of

-- the fields of a struct of C, told by their nodes, are those of a struct of the specification, one for one, whatever their names
abbrev pub fields_fit : List Note → List ℕ → List Field → Bool
fields_fit notes [] [] = true
fields_fit notes (node ∷ more) (field ∷ others) = field_fits (slice_get notes node) field.of && fields_fit notes more others
fields_fit notes _ _ = false

-- the fields of a node where it is a struct with a tag
abbrev pub fields_tagged : List ℕ → List ℕ → Kind → Option Parts
fields_tagged text word (nodes.Struct tag fields attribute) = if bytes_eq (spelling text tag) word then Some fields else None
fields_tagged text word _ = None

abbrev pub or_else : Option Parts → Option Parts → Option Parts
or_else None other = other
or_else (Some fields) other = Some fields

-- the fields of the struct of C with a tag
abbrev pub struct_tagged : List ℕ → List ℕ → List Node → Option Parts
struct_tagged text word [] = None
struct_tagged text word (node ∷ more) = or_else (fields_tagged text word node.kind) (struct_tagged text word more)

-- what is wrong with a struct of the specification, by what C has under its name
abbrev pub layout_fault : Typed → Specification → Struct → Option Parts → Option Misfit
layout_fault u spec declared None = Some (misfits.Missing (places.Specification declared.at))
layout_fault u spec declared (Some parts) =
    if fields_fit u.notes (tree.listed u.tree.items parts) (listed spec.shape.fields declared.fields) then None else Some (misfits.Layout declared.at)

abbrev pub struct_fault : Typed → Specification → Struct → Option Misfit
struct_fault u spec declared = layout_fault u spec declared (struct_tagged u.text (spelled_at spec.names declared.at) u.tree.nodes)

-- the first fault that some of a list have
abbrev pub first_or : Option Misfit → Option Misfit → Option Misfit
first_or None later = later
first_or (Some fault) later = Some fault

abbrev pub first_fault : {X : Type 0} → (X → Option Misfit) → List X → Option Misfit
first_fault fault [] = None
first_fault fault (x ∷ xs) = first_or (fault x) (first_fault fault xs)

-- the first fault: of the externs in the order of the text, and then of the specification's structs
abbrev pub misfit : Typed → Specification → Option Misfit
misfit u spec = first_or (first_fault (extern_fault u.text spec) u.tree.nodes) (first_fault (struct_fault u spec) spec.shape.structs)

abbrev pub outcome : Option Misfit → Result ⊤ Misfit
outcome None = Ok tt
outcome (Some fault) = Err fault
