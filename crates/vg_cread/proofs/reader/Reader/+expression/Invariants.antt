use Rattle.std.proofs.Common.{◌+◌, ◌-◌, ◌*◌, length}
use Rattle.vg_ctok.specs.declared.kinds.Sign.TheVariants as signs
use Rattle.vg_cread.specs.Forms.{Inner, Expression, ◌⊳◌}
use Rattle.vg_cread.specs.Kinds.{is_sign}
use Rattle.vg_cread.specs.Grammar.{arguments, sign}
use Rattle.vg_cread.specs.Reading.{reads}
use Rattle.vg_cread.proofs.Loops.{Linking, Following, Listing}
use Rattle.vg_cread.proofs.reader.Reader.+expression.Given as goal

abbrev pub decreases-expression : goal.decreases-expression
decreases-expression l = 40 * l.src.room

abbrev pub decreases-operand : goal.decreases-operand
decreases-operand l = 40 * l.src.room

abbrev pub decreases-arguments : goal.decreases-arguments
decreases-arguments l = 40 * l.src.room + 1

abbrev pub decreases-suffix : goal.decreases-suffix
decreases-suffix l = 40 * l.src.room + 1

abbrev pub decreases-opened : goal.decreases-opened
decreases-opened l = 40 * l.src.room + 1

abbrev pub decreases-primary : goal.decreases-primary
decreases-primary l = 40 * l.src.room + 2

abbrev pub decreases-postfix : goal.decreases-postfix
decreases-postfix l = 40 * l.src.room + 3

abbrev pub decreases-unary : goal.decreases-unary
decreases-unary l = 40 * l.src.room + 4

abbrev pub decreases-link : goal.decreases-link
decreases-link l = 40 * l.src.room + 4 + 2 * l.rank

abbrev pub decreases-binary : goal.decreases-binary
decreases-binary l = 40 * l.src.room + 5 + 2 * l.rank

abbrev pub decreases-whole_expression : goal.decreases-whole_expression
decreases-whole_expression l = 40 * l.src.room + 30

abbrev pub invariant-binary-loop-self : goal.invariant-binary-loop-self
invariant-binary-loop-self l = Linking l.src l.rank l.at l.left l.self l.fn.self

abbrev pub decreases-binary-loop-self : goal.decreases-binary-loop-self
decreases-binary-loop-self l = length l.src.toks.now - l.self.at

abbrev pub invariant-postfix-loop-self : goal.invariant-postfix-loop-self
invariant-postfix-loop-self l = Following l.src l.at l.whole l.self l.fn.self

abbrev pub decreases-postfix-loop-self : goal.decreases-postfix-loop-self
decreases-postfix-loop-self l = length l.src.toks.now - l.self.at

abbrev pub invariant-arguments-loop-self : goal.invariant-arguments-loop-self
invariant-arguments-loop-self l = Listing l.src (is_sign signs.Comma) (sign signs.Comma ⊳ Inner Expression) l.parts.items l.self
    (reads l.fn.src arguments l.fn.self)

abbrev pub decreases-arguments-loop-self : goal.decreases-arguments-loop-self
decreases-arguments-loop-self l = length l.src.toks.now - l.self.at
