use Rattle.vg_term.specs.Terms.{width_at}
use Rattle.vg_term.proofs.KnownLaws.{turned_of}
use Rattle.vg_term.proofs.terms.Terms.turned.Goals as goal

pub returns-in-Op-Not-One : goal.returns-in-Op-Not-One
returns-in-Op-Not-One c = turned_of c.node.ensures.made c.args.a c.in-Op-Not-One.part c.in-Op-Not-One.field-0 c.in-Op-Not-One.field-1
    (width_at c.args.self.now c.args.a) c.in-Op-Not-One.ensures.node c.in-Op-Not-One.field-0-is c.in-Op-Not-One.field-1-is
