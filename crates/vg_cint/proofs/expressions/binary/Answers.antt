use Rattle.vg_cint.proofs.Proper.{binary_below}
use Rattle.vg_cint.proofs.expressions.binary.Goals as goal

pub returns-clause-below : goal.returns-clause-below
returns-clause-below c =
    binary_below c.args.op c.args.a.of c.args.b.of c.left_type-of.result c.right_type-by.result c.type_of_binary.result c.word_at.result c.word_at-2.result
    c.in_ok-word.word c.left_type-of.ensures c.type_of_binary.ensures c.in_ok-word.ensures
