use Rattle.std.proofs.Common.{Bool}
use Rattle.vg_bits.specs.Words as words
use Rattle.vg_term.specs.Terms.{width_at}
use Rattle.vg_term.specs.declared.node.Op.TheVariants as ops
use Rattle.vg_term.specs.declared.node.Parts.TheVariants as kinds
use Rattle.vg_simp.specs.Ranges.{Decides}
use Rattle.vg_simp.specs.Knowing.{IsTold}
use Rattle.vg_simp.proofs.Telling.{literal, here_is, left_stands, right_stands}
use Rattle.vg_simp.proofs.Within.{if_some}
use Rattle.vg_simp.proofs.Judgements.{less_told, equal_told}
use Rattle.vg_simp.proofs.knowledge.Knowledge.decided.Goals as goal

pub range-x-requires-clause-stands : goal.range-x-requires-clause-stands
range-x-requires-clause-stands c = left_stands c.requires.made c.args.term c.in-Op.op c.in-Op.parts (width_at c.args.terms.now c.args.term)
    c.in-Op.ensures.node c.in-Ult-Two.a c.in-Ult-Two.b c.in-Ult-Two.is-1

pub range-y-requires-clause-stands : goal.range-y-requires-clause-stands
range-y-requires-clause-stands c = right_stands c.requires.made c.args.term c.in-Op.op c.in-Op.parts (width_at c.args.terms.now c.args.term)
    c.in-Op.ensures.node c.in-Ult-Two.a c.in-Ult-Two.b c.in-Ult-Two.is-1

pub range-x-requires-in-Eq-Two-clause-stands : goal.range-x-requires-in-Eq-Two-clause-stands
range-x-requires-in-Eq-Two-clause-stands c = left_stands c.requires.made c.args.term c.in-Op.op c.in-Op.parts (width_at c.args.terms.now c.args.term)
    c.in-Op.ensures.node c.in-Eq-Two.a c.in-Eq-Two.b c.in-Eq-Two.is-1

pub range-y-requires-in-Eq-Two-clause-stands : goal.range-y-requires-in-Eq-Two-clause-stands
range-y-requires-in-Eq-Two-clause-stands c = right_stands c.requires.made c.args.term c.in-Op.op c.in-Op.parts (width_at c.args.terms.now c.args.term)
    c.in-Op.ensures.node c.in-Eq-Two.a c.in-Eq-Two.b c.in-Eq-Two.is-1

pub returns-in-Ult-Two : goal.returns-in-Ult-Two
returns-in-Ult-Two c =
    if_some c.less.result (λ (holds : Bool). Decides words.ult c.range-x.result c.range-y.result holds)
    (λ (holds : Bool). IsTold c.args.terms.now c.args.self.now.facts.items (literal c.args.term holds))
    (λ holds d.
    less_told c.requires.made c.args.self.now.facts.items c.args.term c.in-Ult-Two.a c.in-Ult-Two.b (width_at c.args.terms.now c.args.term)
    c.range-x.result c.range-y.result holds c.range-x.ensures c.range-y.ensures c.requires.stands
    (here_is c.args.terms.now c.args.term c.in-Op.op ops.Ult c.in-Op.parts (kinds.Two c.in-Ult-Two.a c.in-Ult-Two.b)
    (width_at c.args.terms.now c.args.term) c.in-Op.ensures.node c.in-Ult-Two.is-0 c.in-Ult-Two.is-1) d) c.less.ensures

pub returns-in-Eq-Two : goal.returns-in-Eq-Two
returns-in-Eq-Two c =
    if_some c.equal.result (λ (holds : Bool). Decides words.eq c.range-x-in-Eq-Two.result c.range-y-in-Eq-Two.result holds)
    (λ (holds : Bool). IsTold c.args.terms.now c.args.self.now.facts.items (literal c.args.term holds))
    (λ holds d.
    equal_told c.requires.made c.args.self.now.facts.items c.args.term c.in-Eq-Two.a c.in-Eq-Two.b (width_at c.args.terms.now c.args.term)
    c.range-x-in-Eq-Two.result c.range-y-in-Eq-Two.result holds c.range-x-in-Eq-Two.ensures c.range-y-in-Eq-Two.ensures c.requires.stands
    (here_is c.args.terms.now c.args.term c.in-Op.op ops.Eq c.in-Op.parts (kinds.Two c.in-Eq-Two.a c.in-Eq-Two.b)
    (width_at c.args.terms.now c.args.term) c.in-Op.ensures.node c.in-Eq-Two.is-0 c.in-Eq-Two.is-1) d) c.equal.ensures
