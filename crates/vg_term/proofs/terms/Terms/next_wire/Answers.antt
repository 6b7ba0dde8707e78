use Rattle.vg_term.specs.Terms.{width_at}
use Rattle.vg_term.proofs.Following.{below_stand, below_fits, below_within, next_below, next_same}
use Rattle.vg_term.proofs.terms.Terms.next_wire.Goals as goal

pub cut-requires-clause-parts_stand : goal.cut-requires-clause-parts_stand
cut-requires-clause-parts_stand c = below_stand c.node.ensures.made c.in-Bit.term c.in-Bit.at c.in-Op.op c.in-Op.parts
    (width_at c.args.self.now c.in-Bit.term) c.in-Op.ensures.node

pub cut-requires-clause-fits : goal.cut-requires-clause-fits
cut-requires-clause-fits c = below_fits c.node.ensures.made c.in-Bit.term c.in-Bit.at c.in-Op.op c.in-Op.parts
    (width_at c.args.self.now c.in-Bit.term) c.in-Op.ensures.node

pub cut-requires-clause-within : goal.cut-requires-clause-within
cut-requires-clause-within c = below_within c.node.ensures.made c.in-Bit.term c.in-Bit.at c.in-Op.op c.in-Op.parts
    (width_at c.args.self.now c.in-Bit.term) c.in-Op.ensures.node c.args.wire c.in-Bit.is c.requires

pub returns-in-Op-clause-below : goal.returns-in-Op-clause-below
returns-in-Op-clause-below c = next_below c.node.ensures.made c.in-Bit.term c.in-Bit.at c.in-Op.op c.in-Op.parts
    (width_at c.args.self.now c.in-Bit.term) c.in-Op.ensures.node c.args.wire c.cut.result c.in-Bit.is c.cut.ensures

pub returns-in-Op-clause-same : goal.returns-in-Op-clause-same
returns-in-Op-clause-same c = next_same c.node.ensures.made c.in-Bit.term c.in-Bit.at c.in-Op.op c.in-Op.parts
    (width_at c.args.self.now c.in-Bit.term) c.in-Op.ensures.node c.args.wire c.cut.result c.in-Bit.is c.cut.ensures
