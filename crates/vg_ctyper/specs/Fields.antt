-- Where fields stand in their struct (C11 6.7.2.1): each at the next multiple of its alignment, which is 1 in a packed struct.
use Rattle.std.specs.Prelude.{ℕ, ◌+◌, ◌-◌, ◌*◌, ◌/◌, max, slice_get, Bool, false, is_some, Option, Some, None, if◌then◌else◌}
use Rattle.vg_core.specs.Layouts.{layout}
use Rattle.vg_core.specs.declared.tree.Kind.{Kind}
use Rattle.vg_core.specs.declared.tree.Kind.TheVariants as nodes
use Rattle.vg_core.specs.declared.types.CType.{CType}
use Rattle.vg_core.specs.declared.types.Layout.{Layout}
use Rattle.vg_cscope.specs.declared.standing.Standing.{Standing}
use Rattle.vg_cscope.specs.Scopes.{kind_at, seen_at}
use Rattle.vg_ctyper.specs.Names.{Known}
use Rattle.vg_ctyper.specs.Types.{noted}

abbrev pub within_of : Option Standing → ℕ
within_of None = 0
within_of (Some standing) = standing.within

abbrev pub within : Known → ℕ → ℕ
within k n = within_of (slice_get k.standings n)

abbrev pub has_attribute : Kind → Bool
has_attribute (nodes.Struct tag fields attribute) = is_some attribute
has_attribute _ = false

-- whether a field's struct is packed
abbrev pub is_packed : Known → ℕ → Bool
is_packed k n = has_attribute (kind_at k.tree (within k n))

-- of the fields before, of which there may be none
abbrev pub no_fields : Layout
no_fields = record { size = 0; align = 1 }

abbrev pub layout_at : Known → ℕ → Option Layout
layout_at k n = noted (λ note. note.layout) (slice_get k.notes n)

abbrev pub layout_behind : Known → ℕ → Kind → Option Layout
layout_behind k d (nodes.Field base name count) = layout_at k d
layout_behind k d _ = Some no_fields

-- the size and alignment of the fields before a field; none where one of them breaks a rule
abbrev pub fields_before : Known → ℕ → Option Layout
fields_before k n = elim (seen_at k.standings n) as (λ _. Option Layout) [ None ↦ Some no_fields | Some d ↦ layout_behind k d (kind_at k.tree d) ]

-- the next multiple of an alignment
abbrev pub rounded_up : ℕ → ℕ → ℕ
rounded_up size align = (size + (align - 1)) / align * align

-- the alignment of a field in its struct
abbrev pub field_align : Known → ℕ → CType → ℕ
field_align k n type = if is_packed k n then 1 else max (layout k.notes type).align 1

-- the offset of a field behind fields of so many bytes
abbrev pub field_offset : Known → ℕ → CType → Layout → ℕ
field_offset k n type before = rounded_up before.size (field_align k n type)
