-- Sizes and alignments of types, and places of fields: 8-bit bytes, integers and pointers aligned by their size (C11 6.2.8).
use Rattle.std.specs.Prelude.{ℕ, ◌+◌, ◌*◌, ◌/◌, List, Option, Some, None, slice_get}
use Rattle.vg_core.specs.Syntax.{Syntax}
use Rattle.vg_core.specs.Units.{Typed}
use Rattle.vg_core.specs.declared.tree.Kind.{Kind}
use Rattle.vg_core.specs.declared.tree.Kind.TheVariants as nodes
use Rattle.vg_core.specs.declared.tree.Node.{Node}
use Rattle.vg_core.specs.declared.types.CType.{CType}
use Rattle.vg_core.specs.declared.types.CType.TheVariants as types
use Rattle.vg_core.specs.declared.types.Target.{Target}
use Rattle.vg_core.specs.declared.types.Target.TheVariants as targets
use Rattle.vg_core.specs.declared.types.Layout.{Layout}
use Rattle.vg_core.specs.declared.unit.Note.{Note}

-- of types that no object has
abbrev pub no_bytes : Layout
no_bytes = record { size = 0; align = 1 }

-- 8 bits to a byte
abbrev pub integer_layout : ℕ → Layout
integer_layout bits = record { size = bits / 8; align = bits / 8 }

abbrev pub or_no_bytes : Option Layout → Layout
or_no_bytes None = no_bytes
or_no_bytes (Some layout) = layout

abbrev pub noted_layout : Option Note → Layout
noted_layout None = no_bytes
noted_layout (Some note) = or_no_bytes note.layout

-- what typing says of the struct
abbrev pub struct_layout : List Note → ℕ → Layout
struct_layout notes tag = noted_layout (slice_get notes tag)

abbrev pub target_layout : List Note → Target → Layout
target_layout notes targets.Void = no_bytes
target_layout notes (targets.Int bits signed) = integer_layout bits
target_layout notes (targets.Struct tag) = struct_layout notes tag

abbrev pub layout : List Note → CType → Layout
layout notes types.Void = no_bytes
layout notes (types.Int bits signed) = integer_layout bits
layout notes (types.Pointer target) = record { size = 8; align = 8 }
layout notes (types.Array target length) = record { size = (target_layout notes target).size * length; align = (target_layout notes target).align }
layout notes (types.Struct tag) = struct_layout notes tag
layout notes (types.Handle kind) = no_bytes

abbrev pub or_zero : Option ℕ → ℕ
or_zero None = 0
or_zero (Some n) = n

abbrev pub noted_offset : Option Note → ℕ
noted_offset None = 0
noted_offset (Some note) = or_zero note.offset

-- the node of a struct's field, the fields counted from 0
abbrev pub field_of_kind : Syntax → ℕ → Kind → Option ℕ
field_of_kind tree field (nodes.Struct tag fields attribute) = slice_get tree.items (fields.from + field)
field_of_kind tree field other = None

abbrev pub field_of_node : Syntax → ℕ → Option Node → Option ℕ
field_of_node tree field None = None
field_of_node tree field (Some node) = field_of_kind tree field node.kind

abbrev pub offset_at : List Note → Option ℕ → ℕ
offset_at notes None = 0
offset_at notes (Some node) = noted_offset (slice_get notes node)

-- where a field stands in its struct
abbrev pub offset : Typed → ℕ → ℕ → ℕ
offset u tag field = offset_at u.notes (field_of_node u.tree field (slice_get u.tree.nodes tag))
