-- The integer types of C, told by width and sign (C11 6.2.5), and the types that operands get in an expression (6.3.1.1 and 6.3.1.8).
-- A wider type has the greater rank, and there is one type for each width and sign.
use Rattle.std.specs.Prelude.{ℕ, Bool, true, false, nat_lt, nat_le, if◌then◌else◌}
use Rattle.vg_core.specs.declared.types.Integer.{Integer}
use Rattle.vg_core.specs.declared.tree.IntType.{IntType}
use Rattle.vg_core.specs.declared.tree.IntType.TheVariants as types
use Rattle.vg_core.specs.declared.tree.BinaryOp.{BinaryOp}
use Rattle.vg_core.specs.declared.tree.BinaryOp.TheVariants as binary
use Rattle.vg_core.specs.declared.tree.UnaryOp.{UnaryOp}
use Rattle.vg_core.specs.declared.tree.UnaryOp.TheVariants as unary

abbrev pub with_sign : ℕ → Integer
with_sign n = record { bits = n; signed = true }

abbrev pub without_sign : ℕ → Integer
without_sign n = record { bits = n; signed = false }

-- `int`
abbrev pub int : Integer
int = with_sign 32

-- how many bits a type's words have: 8, 16, 32 or 64. No type of C has another width; one that did would count as the next of these
abbrev pub width : Integer → ℕ
width t = if nat_le t.bits 8 then 8 else if nat_le t.bits 16 then 16 else if nat_le t.bits 32 then 32 else 64

-- the type that a word of C names
abbrev pub integer_of : IntType → Integer
integer_of types.Int = int
integer_of types.Unsigned = without_sign 32
integer_of types.Int8 = with_sign 8
integer_of types.Int16 = with_sign 16
integer_of types.Int32 = with_sign 32
integer_of types.Int64 = with_sign 64
integer_of types.Uint8 = without_sign 8
integer_of types.Uint16 = without_sign 16
integer_of types.Uint32 = without_sign 32
integer_of types.Uint64 = without_sign 64

-- the integer promotions: `int` holds every value of a type that is narrower (6.3.1.1)
abbrev pub promoted : Integer → Integer
promoted t = if nat_lt t.bits 32 then int else t

-- ---- the usual arithmetic conversions (6.3.1.8), of promoted types

-- of two types with the same sign, the one of greater rank
abbrev pub greater : Integer → Integer → Integer
greater t u = if nat_lt t.bits u.bits then u else t

-- of a signed and an unsigned type: the signed one where it is wider, so that it holds every value of the other; else the unsigned one
abbrev pub mixed : (signed_one unsigned_one : Integer) → Integer
mixed s u = if nat_lt u.bits s.bits then s else u

abbrev pub usual : Integer → Integer → Integer
usual t u = if t.signed then (if u.signed then greater t u else mixed t u) else (if u.signed then mixed u t else greater t u)

-- the common type of two operands
abbrev pub common : Integer → Integer → Integer
common t u = usual (promoted t) (promoted u)

-- ---- operators

-- whether each operand is converted by itself: shifts promote it (6.5.7), and `&&` and `||` ask for its truth alone (6.5.13, 6.5.14)
abbrev pub is_apart : BinaryOp → Bool
is_apart binary.ShiftLeft = true
is_apart binary.ShiftRight = true
is_apart binary.AndThen = true
is_apart binary.OrElse = true
is_apart _ = false

-- whether the answer is 0 or 1, an `int` (6.5.8, 6.5.9, 6.5.13, 6.5.14)
abbrev pub is_test : BinaryOp → Bool
is_test binary.Equal = true
is_test binary.NotEqual = true
is_test binary.Less = true
is_test binary.Greater = true
is_test binary.LessEqual = true
is_test binary.GreaterEqual = true
is_test binary.AndThen = true
is_test binary.OrElse = true
is_test _ = false

-- the types that the left and the right operand are converted to
abbrev pub left_type : BinaryOp → Integer → Integer → Integer
left_type op t u = if is_apart op then promoted t else common t u

abbrev pub right_type : BinaryOp → Integer → Integer → Integer
right_type op t u = if is_apart op then promoted u else common t u

-- the type of the result; a shift's is that of the promoted left operand
abbrev pub type_of_binary : BinaryOp → Integer → Integer → Integer
type_of_binary op t u = if is_test op then int else left_type op t u

-- the type of the result of `-`, `~` and `!` (6.5.3.3)
abbrev pub type_of_unary : UnaryOp → Integer → Integer
type_of_unary unary.Not t = int
type_of_unary _ t = promoted t
