use Rattle.std.proofs.Common.{Some, ◌∙◌}
use Rattle.vg_term.specs.Terms.{width_at}
use Rattle.vg_term.specs.declared.node.Node.TheVariants as nodes
use Rattle.vg_term.proofs.Compared.{extended_of}
use Rattle.vg_term.proofs.terms.Terms.extended_part.Goals as goal

pub returns-in-Op-Sext-One : goal.returns-in-Op-Sext-One
returns-in-Op-Sext-One c = extended_of c.node.ensures.made c.args.term c.in-Op-Sext-One.part c.in-Op-Sext-One.field-0-0
    (width_at c.args.self.now c.args.term)
    (c.in-Op-Sext-One.ensures.node ∙ (λ j. Some (
      nodes.Op (c.in-Op-Sext-One.field-0-is j) (c.in-Op-Sext-One.field-1-is j),
      width_at c.args.self.now c.args.term,
    )))
