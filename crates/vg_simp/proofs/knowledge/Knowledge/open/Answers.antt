use mathlib.Core.Bool.{not}
use Rattle.std.proofs.Common.{true, false, ap}
use Rattle.vg_term.specs.Terms.{width_at}
use Rattle.vg_term.specs.declared.node.Op.TheVariants as ops
use Rattle.vg_term.specs.declared.node.Parts.TheVariants as kinds
use Rattle.vg_simp.proofs.Telling.{here_is, told_so, not_told, and_first, and_second, or_first, or_second}
use Rattle.vg_simp.proofs.knowledge.Knowledge.open.Goals as goal

pub follow-requires-clause-told : goal.follow-requires-clause-told
follow-requires-clause-told c =
    and_second c.requires.made c.args.self.now.facts.items c.args.literal.term c.in-And-Two-true.a c.in-And-Two-true.b
    (width_at c.args.terms.now c.args.literal.term) (here_is c.args.terms.now c.args.literal.term c.in-Op.op ops.And c.in-Op.parts
    (kinds.Two c.in-And-Two-true.a c.in-And-Two-true.b) (width_at c.args.terms.now c.args.literal.term) c.in-Op.ensures.node
    c.in-And-Two-true.is-0 c.in-And-Two-true.is-1) (told_so c.args.terms.now c.args.self.now.facts.items c.args.literal true
    c.in-And-Two-true.is-2 c.requires.told)

pub follow-requires-in-And-Two-true-clause-told : goal.follow-requires-in-And-Two-true-clause-told
follow-requires-in-And-Two-true-clause-told c =
    and_first c.requires.made c.args.self.now.facts.items c.args.literal.term c.in-And-Two-true.a c.in-And-Two-true.b
    (width_at c.args.terms.now c.args.literal.term) (here_is c.args.terms.now c.args.literal.term c.in-Op.op ops.And c.in-Op.parts
    (kinds.Two c.in-And-Two-true.a c.in-And-Two-true.b) (width_at c.args.terms.now c.args.literal.term) c.in-Op.ensures.node
    c.in-And-Two-true.is-0 c.in-And-Two-true.is-1) (told_so c.args.terms.now c.args.self.now.facts.items c.args.literal true
    c.in-And-Two-true.is-2 c.requires.told)

pub follow-requires-in-Or-Two-false-clause-told : goal.follow-requires-in-Or-Two-false-clause-told
follow-requires-in-Or-Two-false-clause-told c =
    or_second c.requires.made c.args.self.now.facts.items c.args.literal.term c.in-Or-Two-false.a c.in-Or-Two-false.b
    (width_at c.args.terms.now c.args.literal.term) (here_is c.args.terms.now c.args.literal.term c.in-Op.op ops.Or c.in-Op.parts
    (kinds.Two c.in-Or-Two-false.a c.in-Or-Two-false.b) (width_at c.args.terms.now c.args.literal.term) c.in-Op.ensures.node
    c.in-Or-Two-false.is-0 c.in-Or-Two-false.is-1) (told_so c.args.terms.now c.args.self.now.facts.items c.args.literal false
    c.in-Or-Two-false.is-2 c.requires.told)

pub follow-requires-in-Or-Two-false-2-clause-told : goal.follow-requires-in-Or-Two-false-2-clause-told
follow-requires-in-Or-Two-false-2-clause-told c =
    or_first c.requires.made c.args.self.now.facts.items c.args.literal.term c.in-Or-Two-false.a c.in-Or-Two-false.b
    (width_at c.args.terms.now c.args.literal.term) (here_is c.args.terms.now c.args.literal.term c.in-Op.op ops.Or c.in-Op.parts
    (kinds.Two c.in-Or-Two-false.a c.in-Or-Two-false.b) (width_at c.args.terms.now c.args.literal.term) c.in-Op.ensures.node
    c.in-Or-Two-false.is-0 c.in-Or-Two-false.is-1) (told_so c.args.terms.now c.args.self.now.facts.items c.args.literal false
    c.in-Or-Two-false.is-2 c.requires.told)

pub follow-requires-in-Not-One-default-clause-told : goal.follow-requires-in-Not-One-default-clause-told
follow-requires-in-Not-One-default-clause-told c =
    not_told c.requires.made c.args.self.now.facts.items c.args.literal.term c.in-Not-One-default.a (width_at c.args.terms.now c.args.literal.term)
    c.args.literal.holds (not c.args.literal.holds) (here_is c.args.terms.now c.args.literal.term c.in-Op.op ops.Not c.in-Op.parts
    (kinds.One c.in-Not-One-default.a) (width_at c.args.terms.now c.args.literal.term) c.in-Op.ensures.node c.in-Not-One-default.is-0
    c.in-Not-One-default.is-1) c.requires.told
    (λ e. ap not e) (λ e. ap not e)
