-- The rules that expressions meet (C11 6.5, in the profile).
use Rattle.std.specs.Prelude.{ℕ, ◌+◌, List, [], ◌∷◌, length, codes, slice_get, Bool, true, false, nat_eq, nat_lt, is_some, Option, Some, None, if◌then◌else◌}
use Rattle.vg_core.specs.Syntax.{listed}
use Rattle.vg_core.specs.Library.{row_named, takes}
use Rattle.vg_core.specs.declared.tree.Base.{Base}
use Rattle.vg_core.specs.declared.tree.Base.TheVariants as bases
use Rattle.vg_core.specs.declared.tree.BinaryOp.{BinaryOp}
use Rattle.vg_core.specs.declared.tree.BinaryOp.TheVariants as binary
use Rattle.vg_core.specs.declared.tree.Kind.{Kind}
use Rattle.vg_core.specs.declared.tree.Kind.TheVariants as nodes
use Rattle.vg_core.specs.declared.tree.Name.{Name}
use Rattle.vg_core.specs.declared.tree.UnaryOp.{UnaryOp}
use Rattle.vg_core.specs.declared.tree.UnaryOp.TheVariants as unary
use Rattle.vg_core.specs.declared.types.CType.{CType}
use Rattle.vg_core.specs.declared.types.CType.TheVariants as types
use Rattle.vg_core.specs.declared.types.Target.{Target}
use Rattle.vg_core.specs.declared.unit.Referent.{Referent}
use Rattle.vg_core.specs.declared.unit.Referent.TheVariants as referents
use Rattle.vg_ctyper.specs.declared.demands.Demand.TheVariants as demands
use Rattle.vg_ctyper.specs.declared.fault.Rule.{Rule}
use Rattle.vg_ctyper.specs.declared.fault.Rule.TheVariants as rules
use Rattle.vg_ctyper.specs.declared.fault.TypeFault.{TypeFault}
use Rattle.vg_ctyper.specs.declared.fault.TypeFault.TheVariants as type_faults
use Rattle.vg_cscope.specs.declared.names.Wanted.TheVariants as wanted
use Rattle.vg_ctyper.specs.Faults.{sooner}
use Rattle.vg_cscope.specs.Scopes.{kind_at}
use Rattle.vg_cscope.specs.Names.{spelling, is_function}
use Rattle.vg_ctyper.specs.Names.{Known, found, variable}
use Rattle.vg_ctyper.specs.Types.{◌>>=◌, type_at, number_at, base_target, pointee, address, cast_type, field_of, referent}
use Rattle.vg_ctyper.specs.Demands.{is_spelled, place, fault_at, unless, used, value_at, wants, object_fault, is_passed}

-- ---- names

-- a variable is declared before, in a scope that is still open (C11 6.2.1, 6.5.1)
abbrev pub variable_fault : Known → ℕ → Name → Option TypeFault
variable_fault k n name = unless k n rules.Declared (is_some (variable k n name))

abbrev pub is_before : Known → Option ℕ → Bool
is_before k None = false
is_before k (Some d) = nat_lt d (length k.notes)

-- a struct is declared before it is named (C11 6.7.2.3)
abbrev pub base_fault : Known → ℕ → Base → Option TypeFault
base_fault k n (bases.Int of) = None
base_fault k n (bases.Struct at tag) = if is_before k (found k (wanted.Tag tag) n) then None else Some (type_faults.Typing at rules.Declared)

-- ---- operators

-- `?:` takes integers (C11 6.5.15)
abbrev pub choose_fault : Known → (condition one other : ℕ) → Option TypeFault
choose_fault k condition one other =
    sooner (wants k condition demands.Integer rules.Conditional) (sooner (wants k one demands.Integer rules.Conditional)
    (wants k other demands.Integer rules.Conditional))

-- by which rule the operands of an operator are integers: those of shifts, comparisons and logic, and those of arithmetic (C11 6.5.5 to 6.5.14)
abbrev pub operand_rule : BinaryOp → Rule
operand_rule binary.ShiftLeft = rules.Shift
operand_rule binary.ShiftRight = rules.Shift
operand_rule binary.OrElse = rules.Comparison
operand_rule binary.AndThen = rules.Comparison
operand_rule binary.Equal = rules.Comparison
operand_rule binary.NotEqual = rules.Comparison
operand_rule binary.Less = rules.Comparison
operand_rule binary.Greater = rules.Comparison
operand_rule binary.LessEqual = rules.Comparison
operand_rule binary.GreaterEqual = rules.Comparison
operand_rule _ = rules.Arithmetic

abbrev pub binary_fault : Known → BinaryOp → (left right : ℕ) → Option TypeFault
binary_fault k op left right = sooner (wants k left demands.Integer (operand_rule op)) (wants k right demands.Integer (operand_rule op))

abbrev pub address_at : Known → ℕ → Option CType
address_at k operand = type_at k operand >>= address

-- `&` takes an lvalue that is no pointer and no array (C11 6.5.3.2, and narrower)
abbrev pub address_fault : Known → ℕ → Option TypeFault
address_fault k operand = used k operand (sooner (object_fault k operand) (unless k operand rules.Address (is_some (address_at k operand))))

-- `-` and `~` take integers, `!` too, and `*` a pointer to an object (C11 6.5.3)
abbrev pub unary_fault : Known → UnaryOp → ℕ → Option TypeFault
unary_fault k unary.Negate operand = wants k operand demands.Integer rules.Arithmetic
unary_fault k unary.Complement operand = wants k operand demands.Integer rules.Arithmetic
unary_fault k unary.Not operand = wants k operand demands.Integer rules.Comparison
unary_fault k unary.Load operand = wants k operand demands.Object rules.Indirection
unary_fault k unary.Address operand = address_fault k operand

-- a cast goes from integers to integers, and from pointers to pointers (C11 6.5.4, and narrower)
abbrev pub converted_fault : Known → ℕ → Bool → Option Target → Option CType → Option TypeFault
converted_fault k n pointer to from = to >>= λ target. from >>= λ type. unless k n rules.Cast (is_some (cast_type pointer target type))

abbrev pub cast_fault : Known → ℕ → Base → Bool → ℕ → Option TypeFault
cast_fault k n base pointer operand =
    sooner (base_fault k n base) (sooner (wants k operand demands.Value rules.Cast) (converted_fault k n pointer (base_target k n base) (value_at k operand)))

-- `[]` takes a pointer to an object or an array, and an integer (C11 6.5.2.1)
abbrev pub index_fault : Known → (array index : ℕ) → Option TypeFault
index_fault k array index = sooner (wants k array demands.Object rules.Indirection) (wants k index demands.Integer rules.Indirection)

-- what stands before `.` is a struct with that field (C11 6.5.2.3)
abbrev pub member_fault : Known → ℕ → ℕ → Name → Option TypeFault
member_fault k n whole field = used k whole (unless k n rules.Member (is_some (referent k n (nodes.Member whole field))))

-- what stands before `->` points to an object, which is a struct with that field (C11 6.5.2.3)
abbrev pub pointed_fault : Known → ℕ → ℕ → Name → Option Target → Option TypeFault
pointed_fault k n pointer field None = fault_at k pointer rules.Indirection
pointed_fault k n pointer field (Some target) = unless k n rules.Member (is_some (field_of k field target))

abbrev pub pointee_at : Known → ℕ → Option Target
pointee_at k pointer = type_at k pointer >>= pointee

abbrev pub arrow_fault : Known → ℕ → ℕ → Name → Option TypeFault
arrow_fault k n pointer field = used k pointer (pointed_fault k n pointer field (type_at k pointer >>= pointee))

-- ---- calls (C11 6.5.2.2)

abbrev pub row_of : Known → Name → Option Referent
row_of k name = row_named (spelling k.text name) >>= λ row. Some (referents.Library row)

-- what a name that is called stands for: a function, also one that isn't whole yet, or where nothing has the name, a call of the library
abbrev pub as_called : Known → Name → Option ℕ → Option Referent
as_called k name None = row_of k name
as_called k name (Some d) = if is_function (kind_at k.tree d) then Some (referents.Declared d) else None

abbrev pub called : Known → ℕ → Name → Option Referent
called k n name = as_called k name (found k (wanted.Ordinary name) n)

abbrev pub params_of : Known → Kind → List ℕ
params_of k (nodes.Function is_static is_inline answer name params body) = listed k.tree.items params
params_of k _ = []

abbrev pub param_count : Known → Referent → ℕ
param_count k (referents.Declared d) = length (params_of k (kind_at k.tree d))
param_count k (referents.Library row) = length (takes row)

-- the type of a parameter, the parameters counted from 0
abbrev pub param_type : Known → Referent → ℕ → Option CType
param_type k (referents.Declared d) i = slice_get (params_of k (kind_at k.tree d)) i >>= type_at k
param_type k (referents.Library row) i = slice_get (takes row) i

-- how much `packet_borrow` borrows is a constant expression
abbrev pub is_borrow : Known → Name → Referent → Bool
is_borrow k name (referents.Declared d) = false
is_borrow k name (referents.Library row) = is_spelled k name (codes "packet_borrow")

abbrev pub borrowed_fault : Known → Bool → ℕ → Option TypeFault
borrowed_fault k true argument = unless k argument rules.Borrow (is_some (number_at k argument))
borrowed_fault k false argument = None

-- an argument is assigned to its parameter
abbrev pub passed_fault : Known → ℕ → CType → Option CType → Option TypeFault
passed_fault k argument type None = None
passed_fault k argument type (Some param) = unless k argument rules.Arguments (is_passed param type)

abbrev pub typed_argument_fault : Known → Bool → Option CType → ℕ → CType → Option TypeFault
typed_argument_fault k borrowed param argument types.Void = fault_at k argument rules.Statement
typed_argument_fault k borrowed param argument type = sooner (passed_fault k argument type param) (borrowed_fault k borrowed argument)

abbrev pub argument_fault : Known → Bool → Option CType → ℕ → Option TypeFault
argument_fault k borrowed param argument = type_at k argument >>= typed_argument_fault k borrowed param argument

abbrev pub or_else : Option TypeFault → Option TypeFault → Option TypeFault
or_else None other = other
or_else (Some fault) other = Some fault

-- the fault of the first argument that has one; the arguments stand in the order of the text
abbrev pub arguments_fault : Known → Bool → Referent → ℕ → List ℕ → Option TypeFault
arguments_fault k borrowed callee i [] = None
arguments_fault k borrowed callee i (argument ∷ more) =
    or_else (argument_fault k borrowed (param_type k callee i) argument) (arguments_fault k borrowed callee (i + 1) more)

-- a function doesn't call itself
abbrev pub recursion : Known → ℕ → Referent → Option TypeFault
recursion k n (referents.Declared d) = if nat_lt d (length k.notes) then None else Some (type_faults.Recursive (place k n))
recursion k n (referents.Library row) = None

-- a call has as many arguments as parameters
abbrev pub count_fault : Known → ℕ → Referent → List ℕ → Option TypeFault
count_fault k n callee arguments = unless k n rules.Arguments (nat_eq (length arguments) (param_count k callee))

abbrev pub called_fault : Known → ℕ → Name → List ℕ → Option Referent → Option TypeFault
called_fault k n name arguments None = fault_at k n rules.Declared
called_fault k n name arguments (Some callee) =
    sooner (sooner (recursion k n callee) (count_fault k n callee arguments)) (arguments_fault k (is_borrow k name callee) callee 0 arguments)

abbrev pub call_fault : Known → ℕ → Name → List ℕ → Option TypeFault
call_fault k n name arguments = called_fault k n name arguments (called k n name)

-- ---- all expressions

abbrev pub expression_fault : Known → ℕ → Kind → Option TypeFault
expression_fault k n (nodes.Variable name) = variable_fault k n name
expression_fault k n (nodes.Parens inner) = wants k inner demands.Value rules.Statement
expression_fault k n (nodes.Sizeof base) = base_fault k n base
expression_fault k n (nodes.Cast base pointer operand) = cast_fault k n base pointer operand
expression_fault k n (nodes.Choose condition one other) = choose_fault k condition one other
expression_fault k n (nodes.Binary op left right) = binary_fault k op left right
expression_fault k n (nodes.Unary op operand) = unary_fault k op operand
expression_fault k n (nodes.Index array index) = index_fault k array index
expression_fault k n (nodes.Member whole field) = member_fault k n whole field
expression_fault k n (nodes.Arrow pointer field) = arrow_fault k n pointer field
expression_fault k n (nodes.Call name arguments) = call_fault k n name (listed k.tree.items arguments)
expression_fault k n _ = None
