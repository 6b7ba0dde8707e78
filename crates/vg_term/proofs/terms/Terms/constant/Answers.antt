use Rattle.std.proofs.Common.{◌∙◌, ap, Some}
use Rattle.vg_term.specs.declared.node.Node.TheVariants as nodes
use Rattle.vg_term.specs.declared.node.Op.{Op}
use Rattle.vg_term.specs.Terms.{width_at}
use Rattle.vg_term.proofs.Meanings.{const_word}
use Rattle.vg_term.proofs.terms.Terms.constant.Goals as goal

pub returns-in-Const-clause-word : goal.returns-in-Const-clause-word
returns-in-Const-clause-word c =
    const_word c.node.ensures.made c.args.term c.in-Const.word c.in-Op.field-1 (width_at c.args.self.now c.args.term)
    (c.in-Op.ensures.node ∙ ap (λ (op : Op). Some (nodes.Op op c.in-Op.field-1, width_at c.args.self.now c.args.term)) c.in-Const.is)
