-- What the tree and typing say of a node. A node that isn't there is `;`, and has no type.
use Rattle.std.specs.Prelude.{ℕ, Bool, true, false, slice_get, Option, Some, None, is_some}
use Rattle.vg_core.specs.Units.{Typed}
use Rattle.vg_core.specs.Layouts.{target_layout}
use Rattle.vg_core.specs.declared.tree.Kind.{Kind}
use Rattle.vg_core.specs.declared.tree.Kind.TheVariants as nodes
use Rattle.vg_core.specs.declared.tree.Node.{Node}
use Rattle.vg_core.specs.declared.types.CType.{CType}
use Rattle.vg_core.specs.declared.types.CType.TheVariants as types
use Rattle.vg_core.specs.declared.types.Target.{Target}
use Rattle.vg_core.specs.declared.types.Target.TheVariants as targets
use Rattle.vg_core.specs.declared.unit.Note.{Note}
use Rattle.vg_core.specs.declared.unit.Referent.{Referent}

abbrev pub kind_of_node : Option Node → Kind
kind_of_node None = nodes.Empty
kind_of_node (Some node) = node.kind

abbrev pub kind_at : Typed → ℕ → Kind
kind_at u n = kind_of_node (slice_get u.tree.nodes n)

abbrev pub place_of_node : Option Node → ℕ
place_of_node None = 0
place_of_node (Some node) = node.at

-- the place of a node's first token
abbrev pub place_at : Typed → ℕ → ℕ
place_at u n = place_of_node (slice_get u.tree.nodes n)

abbrev pub or_void : Option CType → CType
or_void None = types.Void
or_void (Some type) = type

abbrev pub type_of_note : Option Note → CType
type_of_note None = types.Void
type_of_note (Some note) = or_void note.of

-- the type of an expression, or of what a declaration declares
abbrev pub type_at : Typed → ℕ → CType
type_at u n = type_of_note (slice_get u.notes n)

abbrev pub or_zero : Option ℕ → ℕ
or_zero None = 0
or_zero (Some n) = n

abbrev pub constant_of_note : Option Note → ℕ
constant_of_note None = 0
constant_of_note (Some note) = or_zero note.constant

-- the word of a constant expression
abbrev pub constant_at : Typed → ℕ → ℕ
constant_at u n = constant_of_note (slice_get u.notes n)

abbrev pub offset_of_note : Option Note → ℕ
offset_of_note None = 0
offset_of_note (Some note) = or_zero note.offset

-- where a field stands in its struct
abbrev pub offset_at : Typed → ℕ → ℕ
offset_at u n = offset_of_note (slice_get u.notes n)

abbrev pub referent_of_note : Option Note → Option Referent
referent_of_note None = None
referent_of_note (Some note) = note.stands_for

-- what a name stands for
abbrev pub referent_at : Typed → ℕ → Option Referent
referent_at u n = referent_of_note (slice_get u.notes n)

abbrev pub is_packed_kind : Kind → Bool
is_packed_kind (nodes.Struct tag fields attribute) = is_some attribute
is_packed_kind _ = false

abbrev pub is_packed_target : Typed → Target → Bool
is_packed_target u (targets.Struct tag) = is_packed_kind (kind_at u tag)
is_packed_target u _ = false

-- whether a field is taken from a packed struct, by the type of what stands before `.` or `->`
abbrev pub is_packed : Typed → CType → Bool
is_packed u (types.Struct tag) = is_packed_target u (targets.Struct tag)
is_packed u (types.Pointer target) = is_packed_target u target
is_packed u (types.Array target length) = is_packed_target u target
is_packed u _ = false

-- the size of an element, in bytes
abbrev pub element_size : Typed → CType → ℕ
element_size u (types.Pointer target) = (target_layout u.notes target).size
element_size u (types.Array target length) = (target_layout u.notes target).size
element_size u _ = 0

abbrev pub is_array : CType → Bool
is_array (types.Array target length) = true
is_array _ = false

abbrev pub is_pointer : CType → Bool
is_pointer (types.Pointer target) = true
is_pointer _ = false
