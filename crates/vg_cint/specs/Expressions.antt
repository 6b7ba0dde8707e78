-- What an operator gives of values of any integer types: the operands are converted (C11 6.3.1.1, 6.3.1.8), and the result has the operator's type.
use Rattle.std.specs.Prelude.{ℕ, not, ◌&&◌, ◌||◌, Result, Ok, Err}
use Rattle.vg_bits.specs.Words.{bit}
use Rattle.vg_core.specs.declared.types.Integer.{Integer}
use Rattle.vg_core.specs.declared.reason.Reason.{Reason}
use Rattle.vg_core.specs.declared.tree.BinaryOp.{BinaryOp}
use Rattle.vg_core.specs.declared.tree.BinaryOp.TheVariants as binary
use Rattle.vg_core.specs.declared.tree.UnaryOp.{UnaryOp}
use Rattle.vg_core.specs.declared.tree.UnaryOp.TheVariants as unary
use Rattle.vg_cint.specs.declared.value.Value.{Value}
use Rattle.vg_cint.specs.Types.{promoted, left_type, right_type, type_of_binary, type_of_unary}
use Rattle.vg_cint.specs.Values.{converted, truth}
use Rattle.vg_cint.specs.Operators as operators

-- a word that an operator gave, as a value of this type
abbrev pub typed : Integer → Result ℕ Reason → Result Value Reason
typed t (Ok a) = Ok (record { of = t; word = a })
typed t (Err reason) = Err reason

-- what an operator gives of two words, of the types that its operands are converted to; these differ for shifts, `&&` and `||` alone.
-- `&&` and `||` have this value where both operands are evaluated
abbrev pub of_words : BinaryOp → (t u : Integer) → ℕ → ℕ → Result ℕ Reason
of_words binary.OrElse t u a b = Ok (bit (truth t a || truth u b))
of_words binary.AndThen t u a b = Ok (bit (truth t a && truth u b))
of_words binary.BitOr t u a b = Ok (operators.or t a b)
of_words binary.BitXor t u a b = Ok (operators.xor t a b)
of_words binary.BitAnd t u a b = Ok (operators.and t a b)
of_words binary.Equal t u a b = Ok (bit (operators.equal t a b))
of_words binary.NotEqual t u a b = Ok (bit (not (operators.equal t a b)))
of_words binary.Less t u a b = Ok (bit (operators.less t a b))
of_words binary.Greater t u a b = Ok (bit (operators.less t b a))
of_words binary.LessEqual t u a b = Ok (bit (operators.less_equal t a b))
of_words binary.GreaterEqual t u a b = Ok (bit (operators.less_equal t b a))
of_words binary.ShiftLeft t u a b = operators.shift_left t u a b
of_words binary.ShiftRight t u a b = operators.shift_right t u a b
of_words binary.Add t u a b = operators.add t a b
of_words binary.Subtract t u a b = operators.subtract t a b
of_words binary.Multiply t u a b = operators.multiply t a b
of_words binary.Divide t u a b = operators.divide t a b
of_words binary.Remainder t u a b = operators.remainder t a b

-- a value converted to a type
abbrev pub word_at : Integer → Value → ℕ
word_at t a = converted t a.of a.word

abbrev pub of_types : BinaryOp → (t u : Integer) → Value → Value → Result ℕ Reason
of_types op t u a b = of_words op t u (word_at t a) (word_at u b)

abbrev pub binary_of : BinaryOp → Value → Value → Result Value Reason
binary_of op a b = typed (type_of_binary op a.of b.of) (of_types op (left_type op a.of b.of) (right_type op a.of b.of) a b)

-- `-`, `~` and `!`; the other two operators before an operand work on objects, and aren't asked for here
abbrev pub of_word : UnaryOp → Integer → ℕ → Result ℕ Reason
of_word unary.Negate t a = operators.negated t a
of_word unary.Complement t a = Ok (operators.complement t a)
of_word _ t a = Ok (bit (not (truth t a)))

abbrev pub unary_of : UnaryOp → Value → Result Value Reason
unary_of op a = typed (type_of_unary op a.of) (of_word op (promoted a.of) (word_at (promoted a.of) a))
