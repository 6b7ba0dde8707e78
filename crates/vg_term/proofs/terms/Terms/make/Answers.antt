use Rattle.vg_term.proofs.Made.{make_width, make_next, make_needs, kept_op}
use Rattle.vg_term.proofs.terms.Terms.make.Goals as goal

pub need-requires-clause-width : goal.need-requires-clause-width
need-requires-clause-width c =
    make_width c.args.self.now c.self.inside.nodes.entries c.args.op c.args.parts.now c.new-held.result c.answer_width-width.result c.self.view_is
    c.new-held.ensures c.requires.fits c.answer_width-width.ensures c.self.invariant.0

pub invariant_of-self : goal.invariant_of-self
invariant_of-self c =
    let next =
    make_next c.args.self.now c.self.inside.nodes.entries c.args.op c.args.parts.now c.new-held.result c.answer_width-width.result c.self.view_is
    c.new-held.ensures c.requires.fits c.answer_width-width.ensures c.requires.parts_stand in
    kept_op c.self.inside.nodes.entries c.need.new.nodes.entries c.self.inside.variables c.args.op c.new-held.result c.answer_width-width.result
    c.need.result c.self.invariant.0 c.self.invariant.1 c.self.invariant.2 next c.need.ensures

pub returns-clause-term : goal.returns-clause-term
returns-clause-term c =
    make_needs c.args.self.now c.self.inside.nodes.entries c.args.op c.args.parts.now c.new-held.result c.answer_width-width.result c.self.view_is
    c.new-held.ensures c.requires.fits c.answer_width-width.ensures c.need.new.nodes.entries c.need.result c.need.ensures

pub returns-clause-made : goal.returns-clause-made
returns-clause-made c =
    let next =
    make_next c.args.self.now c.self.inside.nodes.entries c.args.op c.args.parts.now c.new-held.result c.answer_width-width.result c.self.view_is
    c.new-held.ensures c.requires.fits c.answer_width-width.ensures c.requires.parts_stand in
    (kept_op c.self.inside.nodes.entries c.need.new.nodes.entries c.self.inside.variables c.args.op c.new-held.result c.answer_width-width.result
    c.need.result c.self.invariant.0 c.self.invariant.1 c.self.invariant.2 next c.need.ensures).0
