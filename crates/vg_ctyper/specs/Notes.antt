-- What typing says of a node that breaks no rule, and of a whole text.
use Rattle.std.specs.Prelude.{ℕ, ◌+◌, ◌-◌, ◌*◌, nat_le, nat_lt, max, List, [], ◌∷◌, length, slice_get, Option, Some, None, if◌then◌else◌}
use Rattle.vg_core.specs.Syntax.{Syntax, listed}
use Rattle.vg_core.specs.Layouts.{layout}
use Rattle.vg_core.specs.declared.tree.BinaryOp.{BinaryOp}
use Rattle.vg_core.specs.declared.tree.BinaryOp.TheVariants as binary
use Rattle.vg_core.specs.declared.tree.Name.{Name}
use Rattle.vg_core.specs.declared.tree.Parts.{Parts}
use Rattle.vg_core.specs.declared.tree.Kind.{Kind}
use Rattle.vg_core.specs.declared.tree.Kind.TheVariants as nodes
use Rattle.vg_core.specs.declared.types.CType.{CType}
use Rattle.vg_core.specs.declared.types.Layout.{Layout}
use Rattle.vg_core.specs.declared.unit.Note.{Note}
use Rattle.vg_core.specs.declared.unit.Referent.{Referent}
use Rattle.vg_core.specs.declared.unit.Referent.TheVariants as referents
use Rattle.vg_ctyper.specs.declared.fault.TypeFault.{TypeFault}
use Rattle.vg_ctyper.specs.declared.fault.TypeFault.TheVariants as type_faults
use Rattle.vg_cscope.specs.Scopes.{kind_at}
use Rattle.vg_ctyper.specs.Names.{Known, callee}
use Rattle.vg_ctyper.specs.Types.{◌>>=◌, below_2_32, type_declared, expression_type, constant_word, referent}
use Rattle.vg_ctyper.specs.Fields.{layout_at, fields_before, field_align, field_offset, rounded_up}
use Rattle.vg_ctyper.specs.StatementRules.{turns}
use Rattle.vg_ctyper.specs.DeclarationRules.{last_of}

-- ---- steps

-- a count of steps; one above 1,000,000 counts as 1,000,001
abbrev pub capped : ℕ → ℕ
capped n = if nat_lt n 1000001 then n else 1000001

abbrev pub steps_of : Option Note → ℕ
steps_of None = 0
steps_of (Some note) = note.steps

abbrev pub steps_at : Known → ℕ → ℕ
steps_at k n = steps_of (slice_get k.notes n)

abbrev pub optional_steps : Known → Option ℕ → ℕ
optional_steps k None = 0
optional_steps k (Some n) = steps_at k n

abbrev pub sum_from : Known → ℕ → List ℕ → ℕ
sum_from k sum [] = sum
sum_from k sum (part ∷ parts) = sum_from k (capped (sum + steps_at k part)) parts

abbrev pub sum_of_steps : Known → List ℕ → ℕ
sum_of_steps k parts = sum_from k 0 parts

abbrev pub or_zero : Option ℕ → ℕ
or_zero None = 0
or_zero (Some n) = n

-- each turn counts 1 and the body
abbrev pub loop_steps : (turns body : ℕ) → ℕ
loop_steps turns body = capped (1 + turns * (1 + body))

abbrev pub callee_steps : Known → Option Referent → ℕ
callee_steps k (Some (referents.Declared f)) = steps_at k f
callee_steps k _ = 0

-- `&&` and `||` test their left side; both sides count
abbrev pub binary_steps : BinaryOp → (left right : ℕ) → ℕ
binary_steps binary.AndThen left right = capped (1 + left + right)
binary_steps binary.OrElse left right = capped (1 + left + right)
binary_steps _ left right = capped (left + right)

-- a call counts 1 and the body of what is called
abbrev pub call_steps : Known → ℕ → Name → Parts → ℕ
call_steps k n name arguments = capped (1 + sum_of_steps k (listed k.tree.items arguments) + callee_steps k (callee k n name))

-- of the other expressions: those of the operands
abbrev pub operator_steps : Known → Kind → ℕ
operator_steps k (nodes.Binary op left right) = binary_steps op (steps_at k left) (steps_at k right)
operator_steps k (nodes.Unary op operand) = steps_at k operand
operator_steps k (nodes.Cast base pointer operand) = steps_at k operand
operator_steps k (nodes.Index array index) = capped (steps_at k array + steps_at k index)
operator_steps k (nodes.Member whole field) = steps_at k whole
operator_steps k (nodes.Arrow pointer field) = steps_at k pointer
operator_steps k (nodes.Parens inner) = steps_at k inner
operator_steps k _ = 0

-- at most so many steps: a statement counts 1, a block and a declaration nothing, a condition 1, a call 1 and its body, of two branches the greater
abbrev pub node_steps : Known → ℕ → Kind → ℕ
node_steps k n (nodes.Function is_static is_inline answer name params body) = steps_at k body
node_steps k n (nodes.Block statements end) = sum_of_steps k (listed k.tree.items statements)
node_steps k n (nodes.Declare base pointer name count value) = optional_steps k value
node_steps k n nodes.Empty = 1
node_steps k n (nodes.Evaluate value) = capped (1 + steps_at k value)
node_steps k n (nodes.Assign op target value) = capped (1 + steps_at k target + steps_at k value)
node_steps k n (nodes.Increment target) = capped (1 + steps_at k target)
node_steps k n (nodes.Decrement target) = capped (1 + steps_at k target)
node_steps k n (nodes.If condition first otherwise) = capped (2 + steps_at k condition + max (steps_at k first) (optional_steps k otherwise))
node_steps k n (nodes.For of counter start tested bound stepped step body) = loop_steps (or_zero (turns k of start bound step)) (steps_at k body)
node_steps k n (nodes.Return value) = capped (1 + optional_steps k value)
node_steps k n (nodes.Choose condition one other) = capped (1 + steps_at k condition + max (steps_at k one) (steps_at k other))
node_steps k n (nodes.Call name arguments) = call_steps k n name arguments
node_steps k n kind = operator_steps k kind

-- ---- structs

-- no object takes more than 65,536 bytes
abbrev pub laid : (size align : ℕ) → Option Layout
laid size align = if nat_le size 65536 then Some (record { size = size; align = align }) else None

abbrev pub behind_field : Known → ℕ → CType → Layout → Option Layout
behind_field k n type before = laid (field_offset k n type before + (layout k.notes type).size) (max before.align (field_align k n type))

-- a struct's size is a multiple of its alignment, so that arrays of it are aligned
abbrev pub whole_struct : Layout → Option Layout
whole_struct fields = laid (rounded_up fields.size (max fields.align 1)) fields.align

abbrev pub node_layout : Known → ℕ → Kind → Option Layout
node_layout k n (nodes.Field base name count) =
    type_declared k n (nodes.Field base name count) >>= λ type. fields_before k n >>= λ before. behind_field k n type before
node_layout k n (nodes.Struct tag fields attribute) = last_of (listed k.tree.items fields) >>= layout_at k >>= whole_struct
node_layout k n _ = None

abbrev pub node_offset : Known → ℕ → Kind → Option ℕ
node_offset k n (nodes.Field base name count) =
    type_declared k n (nodes.Field base name count) >>= λ type. fields_before k n >>= λ before. below_2_32 (field_offset k n type before)
node_offset k n _ = None

-- ---- notes

-- the type of what a node declares, or of the expression that it is
abbrev pub or_else : {A : Type 0} → Option A → Option A → Option A
or_else (Some x) other = Some x
or_else None other = other

abbrev pub node_type : Known → ℕ → Kind → Option CType
node_type k n kind = or_else (type_declared k n kind) (expression_type k n kind)

abbrev pub note_of : Known → ℕ → Kind → Note
note_of k n kind = record {
  of = node_type k n kind;
  stands_for = referent k n kind;
  constant = constant_word k n kind;
  layout = node_layout k n kind;
  offset = node_offset k n kind;
  steps = node_steps k n kind;
}

abbrev pub blank : Note
blank = record { of = None; stands_for = None; constant = None; layout = None; offset = None; steps = 0 }

-- nothing is said of a node that breaks a rule
abbrev pub note_unless : Option TypeFault → Note → Note
note_unless None note = note
note_unless (Some fault) note = blank

-- ---- the whole text

abbrev pub size_of_type : Known → Option CType → ℕ
size_of_type k None = 0
size_of_type k (Some type) = (layout k.notes type).size

-- a count of bytes; one above 65,536 counts as 65,537
abbrev pub capped_bytes : ℕ → ℕ
capped_bytes n = if nat_lt n 65537 then n else 65537

abbrev pub locals_behind : Known → ℕ → Kind → Note → ℕ
locals_behind k locals (nodes.Declare base pointer name count value) note = capped_bytes (locals + size_of_type k note.of)
locals_behind k locals _ note = locals

-- `nf_process` takes at most 1,000,000 steps
abbrev pub process_fault : (steps : ℕ) → Kind → Option TypeFault
process_fault steps (nodes.Function is_static is_inline answer name params body) = if nat_lt 1000000 steps then Some (type_faults.Turns name.from) else None
process_fault steps _ = None

abbrev pub item_fault : Syntax → List Note → Option ℕ → Option TypeFault
item_fault tree notes None = None
item_fault tree notes (Some item) = process_fault (steps_of (slice_get notes item)) (kind_at tree item)

abbrev pub items_of : Syntax → Kind → List ℕ
items_of tree (nodes.Unit items) = listed tree.items items
items_of tree _ = []

-- the whole text is the last node, and `nf_process` its last item
abbrev pub whole_fault : Syntax → List Note → Option TypeFault
whole_fault tree notes = item_fault tree notes (last_of (items_of tree (kind_at tree (length tree.nodes - 1))))
