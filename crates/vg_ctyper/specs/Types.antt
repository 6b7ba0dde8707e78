-- The types of declarations and expressions, and the values of constant expressions (C11 6.3, 6.5, 6.6, 6.7), each by those of the parts.
use Rattle.std.specs.Prelude.{ℕ, ◌^◌, [], ◌∷◌, nat_le, nat_lt, List, slice_get, Bool, true, false, ◌&&◌, is_some, Option, Some, None, Result, Ok, Err}
use Rattle.std.specs.Prelude.{if◌then◌else◌}
use Rattle.vg_core.specs.Syntax.{listed}
use Rattle.vg_core.specs.Layouts.{layout}
use Rattle.vg_core.specs.Library.{answer_of}
use Rattle.vg_core.specs.declared.tree.Name.{Name}
use Rattle.vg_core.specs.declared.tree.Base.{Base}
use Rattle.vg_core.specs.declared.tree.Base.TheVariants as bases
use Rattle.vg_core.specs.declared.tree.Parts.{Parts}
use Rattle.vg_core.specs.declared.tree.BinaryOp.{BinaryOp}
use Rattle.vg_core.specs.declared.tree.BinaryOp.TheVariants as binary
use Rattle.vg_core.specs.declared.tree.UnaryOp.{UnaryOp}
use Rattle.vg_core.specs.declared.tree.UnaryOp.TheVariants as unary
use Rattle.vg_core.specs.declared.tree.IntType.{IntType}
use Rattle.vg_core.specs.declared.tree.Kind.{Kind}
use Rattle.vg_core.specs.declared.tree.Kind.TheVariants as nodes
use Rattle.vg_core.specs.declared.types.CType.{CType}
use Rattle.vg_core.specs.declared.types.CType.TheVariants as types
use Rattle.vg_core.specs.declared.types.Target.{Target}
use Rattle.vg_core.specs.declared.types.Target.TheVariants as targets
use Rattle.vg_core.specs.declared.types.Integer.{Integer}
use Rattle.vg_core.specs.declared.unit.Note.{Note}
use Rattle.vg_core.specs.declared.unit.Referent.{Referent}
use Rattle.vg_core.specs.declared.unit.Referent.TheVariants as referents
use Rattle.vg_core.specs.declared.reason.Reason.{Reason}
use Rattle.vg_cint.specs.Types.{integer_of, common, type_of_binary, type_of_unary}
use Rattle.vg_cint.specs.Values.{converted}
use Rattle.vg_cint.specs.Operators.{less}
use Rattle.vg_cint.specs.Expressions.{binary_of}
use Rattle.vg_cint.specs.declared.value.Value.{Value}
use Rattle.vg_cscope.specs.declared.names.Wanted.TheVariants as wanted
use Rattle.vg_cscope.specs.Scopes.{kind_at}
use Rattle.vg_ctyper.specs.Names.{Known, found, variable, callee, field_named}

infixl 10 ◌>>=◌
abbrev pub ◌>>=◌ : {A B : Type 0} → Option A → (A → Option B) → Option B
None >>= f = None
(Some x) >>= f = f x

-- ---- notes on parts

abbrev pub noted : {A : Type 0} → (Note → Option A) → Option Note → Option A
noted field None = None
noted field (Some note) = field note

abbrev pub type_at : Known → ℕ → Option CType
type_at k n = noted (λ note. note.of) (slice_get k.notes n)

abbrev pub word_at : Known → ℕ → Option ℕ
word_at k n = noted (λ note. note.constant) (slice_get k.notes n)

-- ---- kinds of types

abbrev pub of_integer : Integer → CType
of_integer t = types.Int t.bits t.signed

abbrev pub as_integer : CType → Option Integer
as_integer (types.Int bits signed) = Some (record { bits = bits; signed = signed })
as_integer _ = None

abbrev pub of_target : Target → CType
of_target targets.Void = types.Void
of_target (targets.Int bits signed) = types.Int bits signed
of_target (targets.Struct tag) = types.Struct tag

-- what `*`, `->` and `[]` come to: what a pointer points to, or an array is of
abbrev pub pointee : CType → Option Target
pointee (types.Pointer targets.Void) = None
pointee (types.Pointer target) = Some target
pointee (types.Array target count) = Some target
pointee _ = None

-- what a pointer points to, also to `void`; an array is used as a pointer to its first element (C11 6.3.2.1)
abbrev pub pointed : CType → Option Target
pointed (types.Pointer target) = Some target
pointed (types.Array target count) = Some target
pointed _ = None

-- the type of `&` of an object
abbrev pub address : CType → Option CType
address (types.Int bits signed) = Some (types.Pointer (targets.Int bits signed))
address (types.Struct tag) = Some (types.Pointer (targets.Struct tag))
address _ = None

abbrev pub integer_at : Known → ℕ → Option Integer
integer_at k n = type_at k n >>= as_integer

-- ---- constant expressions (C11 6.6)

abbrev pub unsigned_64 : Integer
unsigned_64 = record { bits = 64; signed = false }

-- the value of a constant expression
abbrev pub constant_at : Known → ℕ → Option Value
constant_at k n = integer_at k n >>= λ t. word_at k n >>= λ w. Some (record { of = t; word = w })

-- a value as a whole number, where it is at least 0 and below 2 ^ 32
abbrev pub below_2_32 : ℕ → Option ℕ
below_2_32 w = if nat_lt w (2 ^ 32) then Some w else None

abbrev pub number : Value → Option ℕ
number v = if less v.of v.word 0 then None else below_2_32 (converted unsigned_64 v.of v.word)

abbrev pub number_at : Known → ℕ → Option ℕ
number_at k n = constant_at k n >>= number

-- + - and * of constants; a signed overflow is no constant
abbrev pub is_constant_op : BinaryOp → Bool
is_constant_op binary.Add = true
is_constant_op binary.Subtract = true
is_constant_op binary.Multiply = true
is_constant_op _ = false

abbrev pub word_of : Result Value Reason → Option ℕ
word_of (Ok v) = Some v.word
word_of (Err reason) = None

-- ---- declarations

-- what a base names: an integer type, or a struct that was declared before and breaks no rule
abbrev pub laid_out : Known → ℕ → Option Target
laid_out k tag = noted (λ note. note.layout) (slice_get k.notes tag) >>= λ _. Some (targets.Struct tag)

abbrev pub base_target : Known → ℕ → Base → Option Target
base_target k n (bases.Int of) = Some (targets.Int (integer_of of).bits (integer_of of).signed)
base_target k n (bases.Struct at tag) = found k (wanted.Tag tag) n >>= laid_out k

-- the length of an array, from 1 to 65,536
abbrev pub as_length : ℕ → Option ℕ
as_length n = if nat_lt 0 n && nat_le n 65536 then Some n else None

abbrev pub length_at : Known → ℕ → Option ℕ
length_at k n = number_at k n >>= as_length

abbrev pub array_of : Target → Option ℕ → Option CType
array_of target None = None
array_of target (Some count) = Some (types.Array target count)

abbrev pub sized : Known → Target → Option ℕ → CType → Option CType
sized k target None plain = Some plain
sized k target (Some count) plain = array_of target (length_at k count)

-- an object has at most 65,536 bytes
abbrev pub is_small : Known → CType → Bool
is_small k type = nat_le (layout k.notes type).size 65536

abbrev pub if_small : Known → Option CType → Option CType
if_small k type = type >>= λ t. if is_small k t then Some t else None

-- the type of an object: `base name`, `base *name`, `base name[count]`; there are no arrays of pointers
abbrev pub object_type : Known → Bool → Target → Option ℕ → Option CType
object_type k true target None = Some (types.Pointer target)
object_type k true target (Some count) = None
object_type k false target count = if_small k (sized k target count (of_target target))

abbrev pub declared_type : Known → ℕ → Base → Bool → Option ℕ → Option CType
declared_type k n base pointer count = base_target k n base >>= λ target. object_type k pointer target count

abbrev pub answer_type : Option IntType → CType
answer_type None = types.Void
answer_type (Some of) = of_integer (integer_of of)

-- the type of what a node declares
abbrev pub type_declared : Known → ℕ → Kind → Option CType
type_declared k n (nodes.Declare base pointer name count value) = declared_type k n base pointer count
type_declared k n (nodes.Param base pointer name) = declared_type k n base pointer None
type_declared k n (nodes.Field base name count) = declared_type k n base false count
type_declared k n (nodes.For of counter start tested bound stepped step body) = Some (of_integer (integer_of of))
type_declared k n (nodes.ExternNumber of name) = Some (of_integer (integer_of of))
type_declared k n (nodes.ExternHandle handle name) = Some (types.Handle handle)
type_declared k n (nodes.Function is_static is_inline answer name params body) = Some (answer_type answer)
type_declared k n _ = None

abbrev pub type_of_declaration : Known → ℕ → Option CType
type_of_declaration k d = type_declared k d (kind_at k.tree d)

-- the type of an object that a name stands for, or of what it answers
abbrev pub type_of_referent : Known → Referent → Option CType
type_of_referent k (referents.Declared d) = type_of_declaration k d
type_of_referent k (referents.Library row) = answer_of row

-- ---- expressions

abbrev pub are_typed : Known → List ℕ → Bool
are_typed k [] = true
are_typed k (part ∷ parts) = is_some (type_at k part) && are_typed k parts

abbrev pub unary_type : Known → UnaryOp → ℕ → Option CType
unary_type k unary.Load operand = type_at k operand >>= pointee >>= λ target. Some (of_target target)
unary_type k unary.Address operand = type_at k operand >>= address
unary_type k op operand = integer_at k operand >>= λ t. Some (of_integer (type_of_unary op t))

-- a cast goes from integers to integers, and from pointers to pointers
abbrev pub cast_type : Bool → Target → CType → Option CType
cast_type true target from = pointed from >>= λ _. Some (types.Pointer target)
cast_type false target from = as_integer (of_target target) >>= λ _. as_integer from >>= λ _. Some (of_target target)

-- the field that is taken from a struct
abbrev pub field_of : Known → Name → Target → Option Referent
field_of k field (targets.Struct tag) = field_named k tag field >>= λ f. Some (referents.Declared f)
field_of k field _ = None

abbrev pub as_struct : CType → Option Target
as_struct (types.Struct tag) = Some (targets.Struct tag)
as_struct _ = None

-- what the name in an expression stands for
abbrev pub referent : Known → ℕ → Kind → Option Referent
referent k n (nodes.Variable name) = variable k n name
referent k n (nodes.Call name arguments) = callee k n name
referent k n (nodes.Member whole field) = type_at k whole >>= as_struct >>= field_of k field
referent k n (nodes.Arrow pointer field) = type_at k pointer >>= pointee >>= field_of k field
referent k n _ = None

abbrev pub cast : Known → ℕ → Base → Bool → ℕ → Option CType
cast k n base pointer operand = base_target k n base >>= λ target. type_at k operand >>= cast_type pointer target

abbrev pub binary_type : Known → BinaryOp → ℕ → ℕ → Option CType
binary_type k op left right = integer_at k left >>= λ l. integer_at k right >>= λ r. Some (of_integer (type_of_binary op l r))

abbrev pub choice_type : Known → (condition one other : ℕ) → Option CType
choice_type k condition one other = integer_at k condition >>= λ _. integer_at k one >>= λ a. integer_at k other >>= λ b. Some (of_integer (common a b))

abbrev pub element_type : Known → (array index : ℕ) → Option CType
element_type k array index = type_at k array >>= pointee >>= λ target. integer_at k index >>= λ _. Some (of_target target)

abbrev pub call_type : Known → ℕ → Name → Parts → Option CType
call_type k n name arguments = if are_typed k (listed k.tree.items arguments) then (callee k n name >>= type_of_referent k) else None

-- the type of an expression; none where a part has none
abbrev pub expression_type : Known → ℕ → Kind → Option CType
expression_type k n (nodes.Number value of) = Some (of_integer (integer_of of))
expression_type k n (nodes.Variable name) = referent k n (nodes.Variable name) >>= type_of_referent k
expression_type k n (nodes.Parens inner) = type_at k inner
expression_type k n (nodes.Sizeof base) = base_target k n base >>= λ _. Some (of_integer unsigned_64)
expression_type k n (nodes.Cast base pointer operand) = cast k n base pointer operand
expression_type k n (nodes.Unary op operand) = unary_type k op operand
expression_type k n (nodes.Binary op left right) = binary_type k op left right
expression_type k n (nodes.Choose condition one other) = choice_type k condition one other
expression_type k n (nodes.Index array index) = element_type k array index
expression_type k n (nodes.Member whole field) = referent k n (nodes.Member whole field) >>= type_of_referent k
expression_type k n (nodes.Arrow pointer field) = referent k n (nodes.Arrow pointer field) >>= type_of_referent k
expression_type k n (nodes.Call name arguments) = call_type k n name arguments
expression_type k n _ = None

abbrev pub word_of_binary : Known → BinaryOp → ℕ → ℕ → Option ℕ
word_of_binary k op left right = if is_constant_op op then (constant_at k left >>= λ l. constant_at k right >>= λ r. word_of (binary_of op l r)) else None

-- the word of a constant expression: numbers, sizes, and + - and * of such
abbrev pub constant_word : Known → ℕ → Kind → Option ℕ
constant_word k n (nodes.Number value of) = Some value
constant_word k n (nodes.Sizeof base) = base_target k n base >>= λ target. Some (layout k.notes (of_target target)).size
constant_word k n (nodes.Parens inner) = word_at k inner
constant_word k n (nodes.Binary op left right) = word_of_binary k op left right
constant_word k n _ = None
