use Rattle.std.proofs.Common.{true, false}
use Rattle.vg_term.specs.Terms.{width_at}
use Rattle.vg_term.specs.declared.node.Op.TheVariants as ops
use Rattle.vg_term.specs.declared.node.Parts.TheVariants as kinds
use Rattle.vg_simp.proofs.Telling.{here_is, told_so, left_stands, right_stands, equal_first, equal_second, equal_same}
use Rattle.vg_simp.proofs.Bounded.{less_apart, most_apart, apart_other}
use Rattle.vg_simp.proofs.knowledge.Knowledge.relate.Goals as goal

pub equate-requires-clause-first : goal.equate-requires-clause-first
equate-requires-clause-first c =
    equal_first c.requires.made c.args.self.now.facts.items c.args.literal.term c.in-Eq-Two-true.a c.in-Eq-Two-true.b
    (width_at c.args.terms.now c.args.literal.term) (here_is c.args.terms.now c.args.literal.term c.in-Op.op ops.Eq c.in-Op.parts
    (kinds.Two c.in-Eq-Two-true.a c.in-Eq-Two-true.b) (width_at c.args.terms.now c.args.literal.term) c.in-Op.ensures.node c.in-Eq-Two-true.is-0
    c.in-Eq-Two-true.is-1) (told_so c.args.terms.now c.args.self.now.facts.items c.args.literal true c.in-Eq-Two-true.is-2 c.requires.told)

pub equate-requires-clause-second : goal.equate-requires-clause-second
equate-requires-clause-second c =
    equal_second c.requires.made c.args.self.now.facts.items c.args.literal.term c.in-Eq-Two-true.a c.in-Eq-Two-true.b
    (width_at c.args.terms.now c.args.literal.term) (here_is c.args.terms.now c.args.literal.term c.in-Op.op ops.Eq c.in-Op.parts
    (kinds.Two c.in-Eq-Two-true.a c.in-Eq-Two-true.b) (width_at c.args.terms.now c.args.literal.term) c.in-Op.ensures.node c.in-Eq-Two-true.is-0
    c.in-Eq-Two-true.is-1) (told_so c.args.terms.now c.args.self.now.facts.items c.args.literal true c.in-Eq-Two-true.is-2 c.requires.told)

pub equate-requires-clause-same : goal.equate-requires-clause-same
equate-requires-clause-same c =
    equal_same c.requires.made c.args.self.now.facts.items c.args.literal.term c.in-Eq-Two-true.a c.in-Eq-Two-true.b
    (width_at c.args.terms.now c.args.literal.term) (here_is c.args.terms.now c.args.literal.term c.in-Op.op ops.Eq c.in-Op.parts
    (kinds.Two c.in-Eq-Two-true.a c.in-Eq-Two-true.b) (width_at c.args.terms.now c.args.literal.term) c.in-Op.ensures.node c.in-Eq-Two-true.is-0
    c.in-Eq-Two-true.is-1) (told_so c.args.terms.now c.args.self.now.facts.items c.args.literal true c.in-Eq-Two-true.is-2 c.requires.told)

pub part-requires-clause-first : goal.part-requires-clause-first
part-requires-clause-first c = left_stands c.requires.made c.args.literal.term c.in-Op.op c.in-Op.parts
    (width_at c.args.terms.now c.args.literal.term) c.in-Op.ensures.node c.in-Eq-Two-false.a c.in-Eq-Two-false.b c.in-Eq-Two-false.is-1

pub part-requires-clause-second : goal.part-requires-clause-second
part-requires-clause-second c = right_stands c.requires.made c.args.literal.term c.in-Op.op c.in-Op.parts
    (width_at c.args.terms.now c.args.literal.term) c.in-Op.ensures.node c.in-Eq-Two-false.a c.in-Eq-Two-false.b c.in-Eq-Two-false.is-1

pub part-requires-clause-other : goal.part-requires-clause-other
part-requires-clause-other c =
    apart_other c.requires.made c.args.self.now.facts.items c.args.literal.term c.in-Eq-Two-false.a c.in-Eq-Two-false.b
    (width_at c.args.terms.now c.args.literal.term) (here_is c.args.terms.now c.args.literal.term c.in-Op.op ops.Eq c.in-Op.parts
    (kinds.Two c.in-Eq-Two-false.a c.in-Eq-Two-false.b) (width_at c.args.terms.now c.args.literal.term) c.in-Op.ensures.node
    c.in-Eq-Two-false.is-0 c.in-Eq-Two-false.is-1) (told_so c.args.terms.now c.args.self.now.facts.items c.args.literal false
    c.in-Eq-Two-false.is-2 c.requires.told)

pub set_apart-requires-clause-first : goal.set_apart-requires-clause-first
set_apart-requires-clause-first c = left_stands c.requires.made c.args.literal.term c.in-Op.op c.in-Op.parts
    (width_at c.args.terms.now c.args.literal.term) c.in-Op.ensures.node c.in-Ult-Two-true.a c.in-Ult-Two-true.b c.in-Ult-Two-true.is-1

pub set_apart-requires-clause-second : goal.set_apart-requires-clause-second
set_apart-requires-clause-second c = right_stands c.requires.made c.args.literal.term c.in-Op.op c.in-Op.parts
    (width_at c.args.terms.now c.args.literal.term) c.in-Op.ensures.node c.in-Ult-Two-true.a c.in-Ult-Two-true.b c.in-Ult-Two-true.is-1

pub set_apart-requires-clause-apart : goal.set_apart-requires-clause-apart
set_apart-requires-clause-apart c =
    less_apart c.requires.made c.args.self.now.facts.items c.args.literal.term c.in-Ult-Two-true.a c.in-Ult-Two-true.b
    (width_at c.args.terms.now c.args.literal.term) (here_is c.args.terms.now c.args.literal.term c.in-Op.op ops.Ult c.in-Op.parts
    (kinds.Two c.in-Ult-Two-true.a c.in-Ult-Two-true.b) (width_at c.args.terms.now c.args.literal.term) c.in-Op.ensures.node
    c.in-Ult-Two-true.is-0 c.in-Ult-Two-true.is-1) (told_so c.args.terms.now c.args.self.now.facts.items c.args.literal true
    c.in-Ult-Two-true.is-2 c.requires.told)

pub set_apart-requires-in-Ult-Two-false-clause-first : goal.set_apart-requires-in-Ult-Two-false-clause-first
set_apart-requires-in-Ult-Two-false-clause-first c = right_stands c.requires.made c.args.literal.term c.in-Op.op c.in-Op.parts
    (width_at c.args.terms.now c.args.literal.term) c.in-Op.ensures.node c.in-Ult-Two-false.a c.in-Ult-Two-false.b c.in-Ult-Two-false.is-1

pub set_apart-requires-in-Ult-Two-false-clause-second : goal.set_apart-requires-in-Ult-Two-false-clause-second
set_apart-requires-in-Ult-Two-false-clause-second c = left_stands c.requires.made c.args.literal.term c.in-Op.op c.in-Op.parts
    (width_at c.args.terms.now c.args.literal.term) c.in-Op.ensures.node c.in-Ult-Two-false.a c.in-Ult-Two-false.b c.in-Ult-Two-false.is-1

pub set_apart-requires-in-Ult-Two-false-clause-apart : goal.set_apart-requires-in-Ult-Two-false-clause-apart
set_apart-requires-in-Ult-Two-false-clause-apart c =
    most_apart c.requires.made c.args.self.now.facts.items c.args.literal.term c.in-Ult-Two-false.a c.in-Ult-Two-false.b
    (width_at c.args.terms.now c.args.literal.term) (here_is c.args.terms.now c.args.literal.term c.in-Op.op ops.Ult c.in-Op.parts
    (kinds.Two c.in-Ult-Two-false.a c.in-Ult-Two-false.b) (width_at c.args.terms.now c.args.literal.term) c.in-Op.ensures.node
    c.in-Ult-Two-false.is-0 c.in-Ult-Two-false.is-1) (told_so c.args.terms.now c.args.self.now.facts.items c.args.literal false
    c.in-Ult-Two-false.is-2 c.requires.told)
