-- Values: what an expression gives, its conversions, and reads and writes of what it names (C11 6.3).
use Rattle.std.specs.Prelude.{ℕ, ◌/◌, Bool, Option, Some, None, Result, if◌then◌else◌}
use Rattle.vg_core.specs.declared.reason.Reason.{Reason}
use Rattle.vg_core.specs.declared.reason.Reason.TheVariants as reasons
use Rattle.vg_core.specs.declared.tree.BinaryOp.{BinaryOp}
use Rattle.vg_core.specs.declared.tree.UnaryOp.{UnaryOp}
use Rattle.vg_core.specs.declared.types.Integer.{Integer}
use Rattle.vg_core.specs.declared.types.CType.{CType}
use Rattle.vg_core.specs.declared.types.CType.TheVariants as types
use Rattle.vg_bits.specs.Words.{bit}
use Rattle.vg_cint.specs.Types.{int, width}
use Rattle.vg_cint.specs.Values.{converted, truth}
use Rattle.vg_cint.specs.Expressions.{binary_of, unary_of}
use Rattle.vg_cint.specs.declared.value.Value.{Value}
use Rattle.vg_cmemory.specs.declared.object.Object.TheVariants as objects
use Rattle.vg_cmemory.specs.declared.object.Pointer.{Pointer}
use Rattle.vg_cmemory.specs.State.{State, slot, points_of, hold}
use Rattle.vg_cmemory.specs.Access.{load, store}
use Rattle.vg_cmean.specs.declared.datum.Datum.{Datum}
use Rattle.vg_cmean.specs.declared.datum.Datum.TheVariants as data_of
use Rattle.vg_cmean.specs.declared.datum.Lvalue.{Lvalue}
use Rattle.vg_cmean.specs.Outcomes.{Outcome, Next, Gives, Wrong, or_wrong, on_own}

-- ---- what typing has made sure of: an integer where one is asked for, a pointer where one is asked for

abbrev pub zero_value : Value
zero_value = record { of = int; word = 0 }

abbrev pub word_of : Datum → Value
word_of (data_of.Word value) = value
word_of _ = zero_value

-- objects are numbered from 1, so this points to nothing that lives
abbrev pub nowhere : Pointer
nowhere = record { object = objects.Chunk 0; offset = 0 }

abbrev pub pointer_of : Datum → Pointer
pointer_of (data_of.Address pointer) = pointer
pointer_of _ = nowhere

abbrev pub integer_of : CType → Integer
integer_of (types.Int bits signed) = record { bits = bits; signed = signed }
integer_of _ = int

-- ---- conversions

abbrev pub converted_to : Integer → Value → Value
converted_to t v = record { of = t; word = converted t v.of v.word }

-- a number with this word, which is cut to its type
abbrev pub number : Integer → ℕ → Value
number t word = converted_to t (record { of = t; word = word })

-- as by an assignment, a cast, an argument or a `return` (6.3.1.3, 6.3.2.3)
abbrev pub as_type : CType → Datum → Datum
as_type (types.Int bits signed) d = data_of.Word (converted_to (record { bits = bits; signed = signed }) (word_of d))
as_type (types.Pointer target) d = data_of.Address (pointer_of d)
as_type _ d = data_of.Nothing

-- whether a condition holds
abbrev pub is_true : Datum → Bool
is_true d = truth (word_of d).of (word_of d).word

-- 0 or 1, as an `int`
abbrev pub of_bool : Bool → Datum
of_bool b = data_of.Word (record { of = int; word = bit b })

-- ---- lvalues: a read of one (6.3.2.1), and a write to it (6.5.16.1). An access stands at the lvalue

abbrev pub size_of : Integer → ℕ
size_of t = width t / 8

-- a member of a packed struct may stand at any offset
abbrev pub align_of : Bool → Integer → ℕ
align_of loose t = if loose then 1 else size_of t

abbrev pub read_integer : Integer → Lvalue → State → Outcome
read_integer t p s = or_wrong (load s p.pointer p.room (size_of t) (align_of p.loose t)) p.at s
    (λ word. Gives (data_of.Word (record { of = t; word = word })) s)

-- an array stands for a pointer to its first element
abbrev pub read_lvalue : CType → Lvalue → State → Outcome
read_lvalue (types.Int bits signed) p s = read_integer (record { bits = bits; signed = signed }) p s
read_lvalue (types.Array target length) p s = Gives (data_of.Address p.pointer) s
read_lvalue _ p s = Gives data_of.Nothing s

abbrev pub read_pointer : Option Pointer → ℕ → State → Outcome
read_pointer None at s = Wrong at reasons.Unset s
read_pointer (Some p) at s = Gives (data_of.Address p) s

-- the value of what an expression gave
abbrev pub read : Datum → State → Outcome
read (data_of.Lvalue place) s = read_lvalue place.of place s
read (data_of.PointerVariable node at) s = read_pointer (points_of (slot s.own node).life) at s
read d s = Gives d s

abbrev pub write_integer : Integer → Lvalue → Value → State → Outcome
write_integer t p v s = or_wrong (store s p.pointer p.room (size_of t) (align_of p.loose t) (converted t v.of v.word)) p.at s Next

abbrev pub write : Datum → Datum → State → Outcome
write (data_of.Lvalue place) d s = write_integer (integer_of place.of) place (word_of d) s
write (data_of.PointerVariable node at) d s = Next (on_own (hold node (pointer_of d)) s)
write _ d s = Next s

-- ---- operators

abbrev pub of_result : Result Value Reason → ℕ → State → Outcome
of_result r at s = or_wrong r at s (λ v. Gives (data_of.Word v) s)

abbrev pub binary : BinaryOp → (at : ℕ) → Datum → Datum → State → Outcome
binary op at a b s = of_result (binary_of op (word_of a) (word_of b)) at s

abbrev pub unary : UnaryOp → (at : ℕ) → Datum → State → Outcome
unary op at a s = of_result (unary_of op (word_of a)) at s
