use Rattle.std.proofs.Common.{◌+◌, ◌-◌, refl}
use Rattle.vg_term.specs.Terms.{width_at}
use Rattle.vg_term.specs.declared.node.Op.TheVariants as ops
use Rattle.vg_term.specs.declared.node.Parts.TheVariants as kinds
use Rattle.vg_simp.proofs.Telling.{here_is}
use Rattle.vg_simp.proofs.Placed.{plain_place, wrapped_place, extended_place}
use Rattle.vg_simp.proofs.knowledge.Knowledge.moved.Goals as goal

pub returns-then-range-room : goal.returns-then-range-room
returns-then-range-room c =
    plain_place c.requires.made c.args.self.now.facts.items c.args.term c.in-Some.sum c.in-Some.ensures c.range-range.result c.range-range.ensures
    (c.all_ones.result.value - c.in-Some.sum.word.value) c.all_ones.result.value c.all_ones.ensures.value refl
    (record { base = c.in-Some.sum.base; plus = c.in-Some.sum.word.value; minus = 0 }) refl c.if-range-room.true refl refl

pub returns-then-range-room-2 : goal.returns-then-range-room-2
returns-then-range-room-2 c =
    wrapped_place c.requires.made c.args.self.now.facts.items c.args.term c.in-Some.sum c.in-Some.ensures c.range-range.result c.range-range.ensures
    (c.all_ones.result.value - c.in-Some.sum.word.value) c.all_ones.result.value c.all_ones.ensures.value refl
    (record { base = c.in-Some.sum.base; plus = 0; minus = c.all_ones.result.value - c.in-Some.sum.word.value + 1 }) refl c.if-range-room-2.true refl refl

pub returns : goal.returns
returns c = extended_place c.requires.made c.args.self.now.facts.items c.args.term c.in-Zext-One.part c.in-Zext-One.field-0-0
    (width_at c.args.terms.now c.args.term) (record { base = c.in-Zext-One.part; plus = 0; minus = 0 })
    (here_is c.args.terms.now c.args.term c.in-Op.op (ops.Zext c.in-Zext-One.field-0-0) c.in-Op.parts (kinds.One c.in-Zext-One.part)
    (width_at c.args.terms.now c.args.term) c.in-Op.ensures.node c.in-Zext-One.is-0 c.in-Zext-One.is-1) refl refl refl
