use Rattle.std.proofs.Common.{◌∙◌, sym, ap, arith}
use Rattle.vg_bits.specs.Words as words
use Rattle.vg_term.specs.Terms.{width_at}
use Rattle.vg_term.specs.declared.node.Op.TheVariants as ops
use Rattle.vg_term.specs.declared.node.Parts.TheVariants as kinds
use Rattle.vg_simp.proofs.Telling.{here_is, lone_stands}
use Rattle.vg_simp.proofs.Judgements.{uncut_same}
use Rattle.vg_simp.proofs.knowledge.Knowledge.uncut.Goals as goal

pub node-requires-2 : goal.node-requires-2
node-requires-2 c = lone_stands c.requires.made c.args.term c.in-Op.op c.in-Op.parts (width_at c.args.terms.now c.args.term) c.in-Op.ensures.node
    c.in-Zext-One.part c.in-Zext-One.is-1

pub width-requires : goal.width-requires
width-requires c = lone_stands c.requires.made c.in-Zext-One.part c.in-Op-node.inner c.in-Op-node.below (width_at c.args.terms.now c.in-Zext-One.part)
    c.in-Op-node.ensures.node c.in-Extract-One.whole c.in-Extract-One.is-1

pub range-range-requires-clause-stands : goal.range-range-requires-clause-stands
range-range-requires-clause-stands c = lone_stands c.requires.made c.in-Zext-One.part c.in-Op-node.inner c.in-Op-node.below
    (width_at c.args.terms.now c.in-Zext-One.part) c.in-Op-node.ensures.node c.in-Extract-One.whole c.in-Extract-One.is-1

pub width-requires-2 : goal.width-requires-2
width-requires-2 c = lone_stands c.requires.made c.args.term c.in-Op.op c.in-Op.parts (width_at c.args.terms.now c.args.term) c.in-Op.ensures.node
    c.in-Zext-One.part c.in-Zext-One.is-1

pub returns : goal.returns
returns c =
    uncut_same c.requires.made c.args.self.now.facts.items c.args.term c.in-Zext-One.part c.in-Extract-One.whole c.in-Zext-One.field-0-0
    c.in-Extract-One.from c.in-Extract-One.width-0 (width_at c.args.terms.now c.args.term) (width_at c.args.terms.now c.in-Zext-One.part)
    c.all_ones.result.value c.range-range.result
    (here_is c.args.terms.now c.args.term c.in-Op.op (ops.Zext c.in-Zext-One.field-0-0) c.in-Op.parts (kinds.One c.in-Zext-One.part)
    (width_at c.args.terms.now c.args.term) c.in-Op.ensures.node c.in-Zext-One.is-0 c.in-Zext-One.is-1)
    (here_is c.args.terms.now c.in-Zext-One.part c.in-Op-node.inner (ops.Extract c.in-Extract-One.from c.in-Extract-One.width-0) c.in-Op-node.below
    (kinds.One c.in-Extract-One.whole) (width_at c.args.terms.now c.in-Zext-One.part) c.in-Op-node.ensures.node c.in-Extract-One.is-0
    c.in-Extract-One.is-1)
    (omega (arith, c.if-from-ne0.false)) (sym c.width.ensures.width ∙ omega (arith, c.if-width.false) ∙ c.width-else-from-ne0.ensures.width)
    c.range-range.ensures (omega (arith, c.if-range-all_ones.false)) (c.all_ones.ensures.value ∙ ap words.all_ones c.width-2.ensures.width)
