use Rattle.std.proofs.Common.{refl, arith}
use Rattle.vg_term.specs.Terms.{width_at}
use Rattle.vg_term.specs.declared.node.Parts.TheVariants as kinds
use Rattle.vg_simp.proofs.Telling.{here_is, lone_stands, left_stands, right_stands, then_stands, else_stands}
use Rattle.vg_simp.proofs.Within.{one_within, two_within, choice_within}
use Rattle.vg_simp.proofs.knowledge.Knowledge.+range.Goals as goal

pub range-x-requires : goal.range-x-requires
range-x-requires t c = (
  omega (arith, c.decreases, c.if-depth-eq0.false),
  (
    c.requires.made,
    (
      lone_stands c.requires.made c.args.term c.in-Op.op c.in-Op.parts (width_at c.args.terms.now c.args.term) c.in-Op.ensures.node c.in-One.a
          c.in-One.is,
      c.requires.known,
    ),
  ),
)

pub width-requires : goal.width-requires
width-requires t c = lone_stands c.requires.made c.args.term c.in-Op.op c.in-Op.parts (width_at c.args.terms.now c.args.term) c.in-Op.ensures.node
    c.in-One.a c.in-One.is

pub width-width-requires : goal.width-width-requires
width-width-requires t c = left_stands c.requires.made c.args.term c.in-Op.op c.in-Op.parts (width_at c.args.terms.now c.args.term)
    c.in-Op.ensures.node c.in-Two.a c.in-Two.b c.in-Two.is

pub width-requires-in-Two : goal.width-requires-in-Two
width-requires-in-Two t c = right_stands c.requires.made c.args.term c.in-Op.op c.in-Op.parts (width_at c.args.terms.now c.args.term)
    c.in-Op.ensures.node c.in-Two.a c.in-Two.b c.in-Two.is

pub range-x-requires-in-Two : goal.range-x-requires-in-Two
range-x-requires-in-Two t c = (
  omega (arith, c.decreases, c.if-depth-eq0.false),
  (
    c.requires.made,
    (
      left_stands c.requires.made c.args.term c.in-Op.op c.in-Op.parts (width_at c.args.terms.now c.args.term) c.in-Op.ensures.node c.in-Two.a
          c.in-Two.b c.in-Two.is,
      c.requires.known,
    ),
  ),
)

pub range-y-requires : goal.range-y-requires
range-y-requires t c = (
  omega (arith, c.decreases, c.if-depth-eq0.false),
  (
    c.requires.made,
    (
      right_stands c.requires.made c.args.term c.in-Op.op c.in-Op.parts (width_at c.args.terms.now c.args.term) c.in-Op.ensures.node c.in-Two.a
          c.in-Two.b c.in-Two.is,
      c.requires.known,
    ),
  ),
)

pub range-x-requires-in-Three : goal.range-x-requires-in-Three
range-x-requires-in-Three t c = (
  omega (arith, c.decreases, c.if-depth-eq0.false),
  (
    c.requires.made,
    (
      then_stands c.requires.made c.args.term c.in-Op.op c.in-Op.parts (width_at c.args.terms.now c.args.term) c.in-Op.ensures.node
          c.in-Three.field-0 c.in-Three.a c.in-Three.b c.in-Three.is,
      c.requires.known,
    ),
  ),
)

pub range-y-requires-in-Three : goal.range-y-requires-in-Three
range-y-requires-in-Three t c = (
  omega (arith, c.decreases, c.if-depth-eq0.false),
  (
    c.requires.made,
    (
      else_stands c.requires.made c.args.term c.in-Op.op c.in-Op.parts (width_at c.args.terms.now c.args.term) c.in-Op.ensures.node
          c.in-Three.field-0 c.in-Three.a c.in-Three.b c.in-Three.is,
      c.requires.known,
    ),
  ),
)

pub returns-in-One : goal.returns-in-One
returns-in-One t c =
    one_within c.requires.made c.args.self.now.facts.items c.args.term c.in-Op.op (width_at c.args.terms.now c.args.term) c.noted-noted.result
    c.met.result c.noted-noted.ensures c.in-One.a c.range-x.result c.width.result c.of_one.result
    (here_is c.args.terms.now c.args.term c.in-Op.op c.in-Op.op c.in-Op.parts (kinds.One c.in-One.a) (width_at c.args.terms.now c.args.term)
    c.in-Op.ensures.node refl c.in-One.is) c.range-x.ensures c.width.ensures.width c.of_one.ensures c.met.ensures

pub returns-else-width : goal.returns-else-width
returns-else-width t c =
    two_within c.requires.made c.args.self.now.facts.items c.args.term c.in-Op.op (width_at c.args.terms.now c.args.term) c.noted-noted.result
    c.met-in-Two.result c.noted-noted.ensures c.in-Two.a c.in-Two.b c.range-x-in-Two.result c.range-y.result c.width-width.result c.of_two.result
    (here_is c.args.terms.now c.args.term c.in-Op.op c.in-Op.op c.in-Op.parts (kinds.Two c.in-Two.a c.in-Two.b)
    (width_at c.args.terms.now c.args.term) c.in-Op.ensures.node refl c.in-Two.is) c.range-x-in-Two.ensures c.range-y.ensures
    c.width-width.ensures.width
    (omega (arith, c.if-width.false, c.width-in-Two.ensures.width)) c.of_two.ensures c.met-in-Two.ensures

pub returns-in-Three : goal.returns-in-Three
returns-in-Three t c =
    choice_within c.requires.made c.args.self.now.facts.items c.args.term c.in-Three.field-0 c.in-Three.a c.in-Three.b c.in-Op.op
    (width_at c.args.terms.now c.args.term) c.noted-noted.result c.range-x-in-Three.result c.range-y-in-Three.result c.either.result c.both.result
    (here_is c.args.terms.now c.args.term c.in-Op.op c.in-Op.op c.in-Op.parts (kinds.Three c.in-Three.field-0 c.in-Three.a c.in-Three.b)
    (width_at c.args.terms.now c.args.term) c.in-Op.ensures.node refl c.in-Three.is) c.noted-noted.ensures c.range-x-in-Three.ensures
    c.range-y-in-Three.ensures c.either.ensures c.both.ensures
