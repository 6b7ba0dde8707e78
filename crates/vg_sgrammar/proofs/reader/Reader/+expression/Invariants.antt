use Rattle.std.proofs.Common.{◌+◌, ◌-◌, ◌*◌, length}
use Rattle.vg_stok.specs.declared.kinds.Sign.TheVariants as signs
use Rattle.vg_sgrammar.specs.Kinds.{is_sign, is_binary}
use Rattle.vg_sgrammar.specs.Rules.{some_expressions, next_expression, operations, operation, binary}
use Rattle.vg_sgrammar.specs.Reader.{reads}
use Rattle.vg_sgrammar.proofs.Steps.{Listing}
use Rattle.vg_sgrammar.proofs.reader.Reader.+expression.Given as goal

abbrev pub decreases-expression : goal.decreases-expression
decreases-expression l = 50 * l.src.room

abbrev pub decreases-operand : goal.decreases-operand
decreases-operand l = 50 * l.src.room

abbrev pub decreases-next_expression : goal.decreases-next_expression
decreases-next_expression l = 50 * l.src.room + 1

abbrev pub decreases-some_expressions : goal.decreases-some_expressions
decreases-some_expressions l = 50 * l.src.room + 2

abbrev pub decreases-arguments : goal.decreases-arguments
decreases-arguments l = 50 * l.src.room + 3

abbrev pub decreases-named_primary : goal.decreases-named_primary
decreases-named_primary l = 50 * l.src.room + 4

abbrev pub decreases-parens : goal.decreases-parens
decreases-parens l = 50 * l.src.room + 4

abbrev pub decreases-has : goal.decreases-has
decreases-has l = 50 * l.src.room + 4

abbrev pub decreases-primary : goal.decreases-primary
decreases-primary l = 50 * l.src.room + 5

abbrev pub decreases-unary : goal.decreases-unary
decreases-unary l = 50 * l.src.room + 6

abbrev pub decreases-binary : goal.decreases-binary
decreases-binary l = 50 * l.src.room + 7 + 4 * l.rank

abbrev pub decreases-operation : goal.decreases-operation
decreases-operation l = 50 * l.src.room + 4 + 4 * l.rank

abbrev pub decreases-operations : goal.decreases-operations
decreases-operations l = 50 * l.src.room + 5 + 4 * l.rank

abbrev pub decreases-ranked : goal.decreases-ranked
decreases-ranked l = 50 * l.src.room + 6 + 4 * l.rank

abbrev pub decreases-whole_expression : goal.decreases-whole_expression
decreases-whole_expression l = 50 * l.src.room + 48

abbrev pub invariant-operations-loop-list : goal.invariant-operations-loop-list
invariant-operations-loop-list l = Listing l.src (is_binary l.rank) (operation l.rank (binary (l.rank - 1))) l.list.items l.self
    (reads l.fn.src (operations l.fn.rank (binary (l.fn.rank - 1))) l.fn.self)

abbrev pub decreases-operations-loop-list : goal.decreases-operations-loop-list
decreases-operations-loop-list l = length l.src.toks.now - l.self.at

abbrev pub invariant-some_expressions-loop-parts : goal.invariant-some_expressions-loop-parts
invariant-some_expressions-loop-parts l = Listing l.src (is_sign signs.Comma) next_expression l.parts.items l.self
    (reads l.fn.src some_expressions l.fn.self)

abbrev pub decreases-some_expressions-loop-parts : goal.decreases-some_expressions-loop-parts
decreases-some_expressions-loop-parts l = length l.src.toks.now - l.self.at
