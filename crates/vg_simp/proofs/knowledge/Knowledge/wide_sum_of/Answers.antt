use Rattle.std.proofs.Common.{◌∙◌, arith}
use Rattle.vg_term.specs.Terms.{width_at}
use Rattle.vg_term.specs.declared.node.Op.TheVariants as ops
use Rattle.vg_term.specs.declared.node.Parts.TheVariants as kinds
use Rattle.vg_simp.proofs.Telling.{here_is, lone_stands}
use Rattle.vg_simp.proofs.Summed.{zext_wide, zext_wider}
use Rattle.vg_simp.proofs.knowledge.Knowledge.wide_sum_of.Goals as goal

pub sum_of-requires-2-clause-stands : goal.sum_of-requires-2-clause-stands
sum_of-requires-2-clause-stands c = lone_stands c.requires.made c.args.term c.in-Op.op c.in-Op.parts (width_at c.args.terms.now c.args.term)
    c.in-Op.ensures.node c.in-Zext-One.part c.in-Zext-One.is-1

pub widened-requires-clause-wider : goal.widened-requires-clause-wider
widened-requires-clause-wider c =
    omega (
      arith,
      c.width.ensures.width,
      zext_wider c.requires.made c.args.term c.in-Zext-One.part c.in-Zext-One.field-0-0
          (width_at c.args.terms.now c.args.term) c.in_ok-sum.sum (here_is c.args.terms.now c.args.term c.in-Op.op (ops.Zext c.in-Zext-One.field-0-0)
          c.in-Op.parts (kinds.One c.in-Zext-One.part) (width_at c.args.terms.now c.args.term) c.in-Op.ensures.node c.in-Zext-One.is-0
          c.in-Zext-One.is-1) c.in_ok-sum.ensures,
    )

pub returns : goal.returns
returns c =
    zext_wide c.requires.made c.args.self.now.facts.items c.args.term c.in-Zext-One.part c.in-Zext-One.field-0-0
    (width_at c.args.terms.now c.args.term) c.in_ok-sum.sum c.range-range.result c.in_ok-word.word
    (here_is c.args.terms.now c.args.term c.in-Op.op (ops.Zext c.in-Zext-One.field-0-0) c.in-Op.parts (kinds.One c.in-Zext-One.part)
    (width_at c.args.terms.now c.args.term) c.in-Op.ensures.node c.in-Zext-One.is-0 c.in-Zext-One.is-1)
    (lone_stands c.requires.made c.args.term c.in-Op.op c.in-Op.parts (width_at c.args.terms.now c.args.term) c.in-Op.ensures.node
    c.in-Zext-One.part c.in-Zext-One.is-1) c.in_ok-sum.ensures c.range-range.ensures (c.in_ok-word.ensures.width ∙ c.width.ensures.width)
    c.in_ok-word.ensures.widened
