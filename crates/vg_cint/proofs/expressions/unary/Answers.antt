use Rattle.vg_cint.proofs.Proper.{unary_below}
use Rattle.vg_cint.proofs.expressions.unary.Goals as goal

pub returns-clause-below : goal.returns-clause-below
returns-clause-below c =
    unary_below c.args.op c.args.a.of c.promoted-of.result c.type_of_unary.result c.word_at.result c.in_ok-word.word c.promoted-of.ensures
    c.type_of_unary.ensures c.in_ok-word.ensures
