use Rattle.std.proofs.Common.{refl}
use Rattle.vg_term.specs.Terms.{width_at}
use Rattle.vg_term.specs.declared.node.Op.TheVariants as ops
use Rattle.vg_term.specs.declared.node.Parts.TheVariants as kinds
use Rattle.vg_simp.proofs.Telling.{here_is, left_stands, right_stands}
use Rattle.vg_simp.proofs.Placed.{spaced_less, spaced_more, spaced_below, spaced_above}
use Rattle.vg_simp.proofs.knowledge.Knowledge.spaced.Goals as goal

pub are_apart-requires-clause-first : goal.are_apart-requires-clause-first
are_apart-requires-clause-first c = left_stands c.requires.made c.args.term c.in-Op.op c.in-Op.parts (width_at c.args.terms.now c.args.term)
    c.in-Op.ensures.node c.in-Ult-Two.a c.in-Ult-Two.b c.in-Ult-Two.is-1

pub are_apart-requires-clause-second : goal.are_apart-requires-clause-second
are_apart-requires-clause-second c = right_stands c.requires.made c.args.term c.in-Op.op c.in-Op.parts (width_at c.args.terms.now c.args.term)
    c.in-Op.ensures.node c.in-Ult-Two.a c.in-Ult-Two.b c.in-Ult-Two.is-1

pub are_apart-requires-in-Ult-Two-clause-first : goal.are_apart-requires-in-Ult-Two-clause-first
are_apart-requires-in-Ult-Two-clause-first c = right_stands c.requires.made c.args.term c.in-Op.op c.in-Op.parts
    (width_at c.args.terms.now c.args.term) c.in-Op.ensures.node c.in-Ult-Two.a c.in-Ult-Two.b c.in-Ult-Two.is-1

pub are_apart-requires-in-Ult-Two-clause-second : goal.are_apart-requires-in-Ult-Two-clause-second
are_apart-requires-in-Ult-Two-clause-second c = left_stands c.requires.made c.args.term c.in-Op.op c.in-Op.parts
    (width_at c.args.terms.now c.args.term) c.in-Op.ensures.node c.in-Ult-Two.a c.in-Ult-Two.b c.in-Ult-Two.is-1

pub are_apart-requires-in-Eq-Two-clause-first : goal.are_apart-requires-in-Eq-Two-clause-first
are_apart-requires-in-Eq-Two-clause-first c = left_stands c.requires.made c.args.term c.in-Op.op c.in-Op.parts (width_at c.args.terms.now c.args.term)
    c.in-Op.ensures.node c.in-Eq-Two.a c.in-Eq-Two.b c.in-Eq-Two.is-1

pub are_apart-requires-in-Eq-Two-clause-second : goal.are_apart-requires-in-Eq-Two-clause-second
are_apart-requires-in-Eq-Two-clause-second c = right_stands c.requires.made c.args.term c.in-Op.op c.in-Op.parts
    (width_at c.args.terms.now c.args.term) c.in-Op.ensures.node c.in-Eq-Two.a c.in-Eq-Two.b c.in-Eq-Two.is-1

pub are_apart-requires-in-Eq-Two-2-clause-first : goal.are_apart-requires-in-Eq-Two-2-clause-first
are_apart-requires-in-Eq-Two-2-clause-first c = right_stands c.requires.made c.args.term c.in-Op.op c.in-Op.parts
    (width_at c.args.terms.now c.args.term) c.in-Op.ensures.node c.in-Eq-Two.a c.in-Eq-Two.b c.in-Eq-Two.is-1

pub are_apart-requires-in-Eq-Two-2-clause-second : goal.are_apart-requires-in-Eq-Two-2-clause-second
are_apart-requires-in-Eq-Two-2-clause-second c = left_stands c.requires.made c.args.term c.in-Op.op c.in-Op.parts
    (width_at c.args.terms.now c.args.term) c.in-Op.ensures.node c.in-Eq-Two.a c.in-Eq-Two.b c.in-Eq-Two.is-1

pub returns-then-are_apart : goal.returns-then-are_apart
returns-then-are_apart c = spaced_less c.requires.made c.args.self.now.facts.items c.args.term c.in-Ult-Two.a c.in-Ult-Two.b
    (width_at c.args.terms.now c.args.term) c.requires.stands (here_is c.args.terms.now c.args.term c.in-Op.op ops.Ult c.in-Op.parts
    (kinds.Two c.in-Ult-Two.a c.in-Ult-Two.b) (width_at c.args.terms.now c.args.term) c.in-Op.ensures.node c.in-Ult-Two.is-0 c.in-Ult-Two.is-1)
    (c.if-are_apart.ensures refl)

pub returns-then-are_apart-2 : goal.returns-then-are_apart-2
returns-then-are_apart-2 c = spaced_more c.requires.made c.args.self.now.facts.items c.args.term c.in-Ult-Two.a c.in-Ult-Two.b
    (width_at c.args.terms.now c.args.term) c.requires.stands (here_is c.args.terms.now c.args.term c.in-Op.op ops.Ult c.in-Op.parts
    (kinds.Two c.in-Ult-Two.a c.in-Ult-Two.b) (width_at c.args.terms.now c.args.term) c.in-Op.ensures.node c.in-Ult-Two.is-0 c.in-Ult-Two.is-1)
    (c.if-are_apart-2.ensures refl)

pub returns-then-are_apart-3 : goal.returns-then-are_apart-3
returns-then-are_apart-3 c = spaced_below c.requires.made c.args.self.now.facts.items c.args.term c.in-Eq-Two.a c.in-Eq-Two.b
    (width_at c.args.terms.now c.args.term) c.requires.stands (here_is c.args.terms.now c.args.term c.in-Op.op ops.Eq c.in-Op.parts
    (kinds.Two c.in-Eq-Two.a c.in-Eq-Two.b) (width_at c.args.terms.now c.args.term) c.in-Op.ensures.node c.in-Eq-Two.is-0 c.in-Eq-Two.is-1)
    (c.if-are_apart-3.ensures refl)

pub returns-then-are_apart-4 : goal.returns-then-are_apart-4
returns-then-are_apart-4 c = spaced_above c.requires.made c.args.self.now.facts.items c.args.term c.in-Eq-Two.a c.in-Eq-Two.b
    (width_at c.args.terms.now c.args.term) c.requires.stands (here_is c.args.terms.now c.args.term c.in-Op.op ops.Eq c.in-Op.parts
    (kinds.Two c.in-Eq-Two.a c.in-Eq-Two.b) (width_at c.args.terms.now c.args.term) c.in-Op.ensures.node c.in-Eq-Two.is-0 c.in-Eq-Two.is-1)
    (c.if-are_apart-4.ensures refl)
