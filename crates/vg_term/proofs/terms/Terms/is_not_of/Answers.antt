use Rattle.vg_term.specs.Terms.{width_at}
use Rattle.std.proofs.lemmas.Bool.{eqb-true}
use Rattle.vg_term.proofs.KnownLaws.{not_opposite, not_made}
use Rattle.vg_term.proofs.terms.Terms.is_not_of.Goals as goal

pub returns-in-Op-Not-One : goal.returns-in-Op-Not-One
returns-in-Op-Not-One c holds =
    not_opposite c.node.ensures.made c.args.a c.args.b c.in-Op-Not-One.part
    (not_made c.node.ensures.made c.args.a c.in-Op-Not-One.part c.in-Op-Not-One.field-0 c.in-Op-Not-One.field-1 (width_at c.args.self.now c.args.a)
    c.in-Op-Not-One.ensures.node c.in-Op-Not-One.field-0-is c.in-Op-Not-One.field-1-is)
    c.requires.second (eqb-true c.in-Op-Not-One.part.0 c.args.b.0 holds)
