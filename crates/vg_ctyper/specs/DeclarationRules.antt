-- The rules that declarations and the whole text meet (C11 6.7, 6.9, in the profile).
use Rattle.std.specs.Prelude.{ℕ, ◌+◌, ◌-◌, ◌%◌, nat_le, nat_lt, nat_eq, max, List, [], ◌∷◌, codes, length, slice_get, Bool, true, false, not, ◌&&◌}
use Rattle.std.specs.Prelude.{◌||◌, is_some, is_none, Option, Some, None, if◌then◌else◌}
use Rattle.vg_core.specs.Syntax.{listed}
use Rattle.vg_core.specs.Layouts.{layout}
use Rattle.vg_core.specs.Library.{row_named}
use Rattle.vg_core.specs.declared.tree.Base.{Base}
use Rattle.vg_core.specs.declared.tree.Base.TheVariants as bases
use Rattle.vg_core.specs.declared.tree.IntType.{IntType}
use Rattle.vg_core.specs.declared.tree.IntType.TheVariants as words
use Rattle.vg_core.specs.declared.tree.Kind.{Kind}
use Rattle.vg_core.specs.declared.tree.Kind.TheVariants as nodes
use Rattle.vg_core.specs.declared.tree.Name.{Name}
use Rattle.vg_core.specs.declared.types.CType.{CType}
use Rattle.vg_core.specs.declared.types.Layout.{Layout}
use Rattle.vg_core.specs.declared.types.Target.{Target}
use Rattle.vg_ctyper.specs.declared.demands.Demand.TheVariants as demands
use Rattle.vg_ctyper.specs.declared.fault.Rule.TheVariants as rules
use Rattle.vg_ctyper.specs.declared.fault.TypeFault.{TypeFault}
use Rattle.vg_ctyper.specs.declared.fault.TypeFault.TheVariants as type_faults
use Rattle.vg_cscope.specs.declared.names.Wanted.TheVariants as wanted
use Rattle.vg_ctyper.specs.Faults.{sooner}
use Rattle.vg_cscope.specs.Scopes.{kind_at}
use Rattle.vg_cscope.specs.Names.{spelling}
use Rattle.vg_ctyper.specs.Names.{Known, found}
use Rattle.vg_ctyper.specs.Types.{◌>>=◌, base_target, length_at, of_target, sized, is_small, type_declared}
use Rattle.vg_ctyper.specs.Demands.{is_spelled, fault_at, unless, used, wants, assigned, same_bool}
use Rattle.vg_ctyper.specs.ExpressionRules.{base_fault}
use Rattle.vg_ctyper.specs.Fields.{within, layout_at, fields_before, field_offset}

-- ---- names that are declared (C11 6.2.1, 6.7)

-- whether a declaration stands in a function
abbrev pub is_local : Kind → Bool
is_local (nodes.Param base pointer name) = true
is_local (nodes.Declare base pointer name count value) = true
is_local (nodes.For of counter start tested bound stepped step body) = true
is_local _ = false

-- a name may be declared again in a function where it is one of the file
abbrev pub is_free : Known → Kind → Option ℕ → Bool
is_free k kind None = true
is_free k kind (Some d) = not (same_bool (is_local kind) (is_local (kind_at k.tree d)))

abbrev pub is_row : Known → Name → Bool
is_row k name = is_some (row_named (spelling k.text name))

-- a name is declared once in the file, and once in nested scopes of a function, and those of the library's calls aren't declared
abbrev pub name_fault : Known → ℕ → Kind → Name → Option TypeFault
name_fault k n kind name = unless k n rules.DeclaredOnce (is_free k kind (found k (wanted.Ordinary name) n) && not (is_row k name))

-- ---- sizes

-- an array's length is a constant expression from 1 to 65,536
abbrev pub length_fault : Known → ℕ → Option ℕ → Option TypeFault
length_fault k n None = None
length_fault k n (Some count) = used k count (unless k n rules.Sizes (is_some (length_at k count)))

-- an object takes at most 65,536 bytes
abbrev pub size_fault : Known → ℕ → Option CType → Option TypeFault
size_fault k n type = type >>= λ t. unless k n rules.Sizes (is_small k t)

abbrev pub array_fault : Known → ℕ → Option Target → Option ℕ → Option TypeFault
array_fault k n target count = target >>= λ t. size_fault k n (sized k t count (of_target t))

-- there are no arrays of pointers
abbrev pub object_size_fault : Known → ℕ → Base → Bool → Option ℕ → Option TypeFault
object_size_fault k n base true None = None
object_size_fault k n base true (Some count) = sooner (fault_at k n rules.Sizes) (length_fault k n (Some count))
object_size_fault k n base false count = sooner (length_fault k n count) (array_fault k n (base_target k n base) count)

abbrev pub size_of : Known → Option CType → ℕ
size_of k None = 0
size_of k (Some type) = (layout k.notes type).size

-- the variables of all blocks together take at most 65,536 bytes; the declaration that passes this is at fault
abbrev pub locals_fault : Known → ℕ → (before size : ℕ) → Option TypeFault
locals_fault k n before size = unless k n rules.Sizes (nat_lt 65536 before || nat_le (before + size) 65536)

-- ---- variables

-- integers and pointers may have a value, arrays and structs not
abbrev pub has_value : Base → Bool → Option ℕ → Bool
has_value base pointer (Some count) = false
has_value base true None = true
has_value (bases.Int of) false None = true
has_value (bases.Struct at tag) false None = false

abbrev pub initial_fault : Known → ℕ → Bool → Option CType → ℕ → Option TypeFault
initial_fault k n false type value = fault_at k n rules.Assignment
initial_fault k n true type value = type >>= λ t. assigned k n t value

abbrev pub value_fault : Known → ℕ → Bool → Option CType → Option ℕ → Option TypeFault
value_fault k n allowed type None = None
value_fault k n allowed type (Some value) = sooner (wants k value demands.Value rules.Assignment) (initial_fault k n allowed type value)

abbrev pub contents_fault : Known → (locals n : ℕ) → Option CType → Bool → Option ℕ → Option TypeFault
contents_fault k locals n type allowed value = sooner (locals_fault k n locals (size_of k type)) (value_fault k n allowed type value)

-- the rules of a declaration in a block, behind variables of `locals` bytes in all
abbrev pub declare_fault : Known → (locals n : ℕ) → Kind → Option TypeFault
declare_fault k locals n (nodes.Declare base pointer name count value) =
    sooner (sooner (base_fault k n base) (name_fault k n (nodes.Declare base pointer name count value) name))
    (sooner (object_size_fault k n base pointer count)
    (contents_fault k locals n (type_declared k n (nodes.Declare base pointer name count value)) (has_value base pointer count) value))
declare_fault k locals n _ = None

abbrev pub param_fault : Known → ℕ → Kind → Base → Name → Option TypeFault
param_fault k n kind base name = sooner (base_fault k n base) (name_fault k n kind name)

-- ---- structs (C11 6.7.2.1)

-- a field is an integer, a struct that was declared before, or an array of integers
abbrev pub is_field_type : Base → Option ℕ → Bool
is_field_type (bases.Struct at tag) (Some count) = false
is_field_type _ _ = true

-- the fields up to a field take at most 65,536 bytes
abbrev pub total_fault : Known → ℕ → CType → (offset : ℕ) → Option TypeFault
total_fault k n type offset = unless k n rules.Sizes (nat_le (offset + (layout k.notes type).size) 65536)

abbrev pub tag_place : Kind → ℕ
tag_place (nodes.Struct tag fields attribute) = tag.from
tag_place _ = 0

-- bytes between the fields of a struct, or behind them
abbrev pub padded : Kind → (offset next : ℕ) → Option TypeFault
padded kind offset next = if nat_eq offset next then None else Some (type_faults.Padded (tag_place kind) offset)

abbrev pub placed_fault : Known → ℕ → CType → Layout → Option TypeFault
placed_fault k n type before =
    sooner (total_fault k n type (field_offset k n type before)) (padded (kind_at k.tree (within k n)) before.size (field_offset k n type before))

abbrev pub place_fault : Known → ℕ → Option CType → Option Layout → Option TypeFault
place_fault k n type before = type >>= λ t. before >>= placed_fault k n t

-- a field's name is one of its own among those of its struct
abbrev pub field_name_fault : Known → ℕ → Name → Option TypeFault
field_name_fault k n name = unless k n rules.Fields (is_none (found k (wanted.Field name) n))

abbrev pub field_fault : Known → ℕ → Kind → Base → Name → Option ℕ → Option TypeFault
field_fault k n kind base name count =
    sooner (base_fault k n base)
    (sooner (field_name_fault k n name)
    (sooner (unless k n rules.Fields (is_field_type base count))
    (sooner (object_size_fault k n base false count) (place_fault k n (type_declared k n kind) (fields_before k n)))))

-- the only attribute is `packed`
abbrev pub attribute_fault : Known → ℕ → Option Name → Option TypeFault
attribute_fault k n None = None
attribute_fault k n (Some name) = unless k n rules.Fields (is_spelled k name (codes "packed"))

-- a tag is declared once
abbrev pub tag_fault : Known → ℕ → Name → Option TypeFault
tag_fault k n tag = unless k n rules.DeclaredOnce (is_none (found k (wanted.Tag tag) n))

abbrev pub last_of : List ℕ → Option ℕ
last_of items = slice_get items (length items - 1)

-- a struct that isn't packed has no bytes behind its last field
abbrev pub end_fault : Name → Layout → Option TypeFault
end_fault tag fields = if nat_eq (fields.size % max fields.align 1) 0 then None else Some (type_faults.Padded tag.from fields.size)

abbrev pub layout_of_last : Known → List ℕ → Option Layout
layout_of_last k fields = last_of fields >>= layout_at k

abbrev pub behind_fault : Known → Name → Bool → List ℕ → Option TypeFault
behind_fault k tag true fields = None
behind_fault k tag false fields = layout_of_last k fields >>= end_fault tag

abbrev pub struct_fault : Known → ℕ → Name → List ℕ → Option Name → Option TypeFault
struct_fault k n tag fields attribute =
    sooner (tag_fault k n tag) (sooner (attribute_fault k n attribute) (behind_fault k tag (is_some attribute) fields))

-- ---- the whole text

abbrev pub is_param_of : IntType → Kind → Bool
is_param_of words.Uint16 (nodes.Param (bases.Int words.Uint16) false name) = true
is_param_of words.Uint64 (nodes.Param (bases.Int words.Uint64) false name) = true
is_param_of of _ = false

abbrev pub are_frame_params : Known → List ℕ → Bool
are_frame_params k (port ∷ now ∷ []) = is_param_of words.Uint16 (kind_at k.tree port) && is_param_of words.Uint64 (kind_at k.tree now)
are_frame_params k _ = false

-- `int nf_process(uint16_t port, uint64_t now)`, by these words, the parameters by any names
abbrev pub is_process : Known → Kind → Bool
is_process k (nodes.Function false false (Some words.Int) name params body) =
    is_spelled k name (codes "nf_process") && are_frame_params k (listed k.tree.items params)
is_process k _ = false

-- the last item is `nf_process`
abbrev pub last_fault : Known → Option ℕ → Option TypeFault
last_fault k None = Some (type_faults.Typing 0 rules.LastItem)
last_fault k (Some item) = unless k item rules.LastItem (is_process k (kind_at k.tree item))

abbrev pub unit_fault : Known → List ℕ → Option TypeFault
unit_fault k items = last_fault k (last_of items)
