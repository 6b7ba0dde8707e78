use Rattle.std.proofs.Common.{◌∙◌}
use Rattle.vg_bits.specs.Words as words
use Rattle.vg_term.specs.Terms.{width_at}
use Rattle.vg_term.specs.declared.node.Op.TheVariants as ops
use Rattle.vg_term.specs.declared.node.Parts.TheVariants as kinds
use Rattle.vg_simp.proofs.Telling.{here_is, left_stands, right_stands}
use Rattle.vg_simp.proofs.Summed.{sum_right, sum_left, sum_less}
use Rattle.vg_simp.proofs.summing.sum_of.Goals as goal

pub constant-requires : goal.constant-requires
constant-requires c = right_stands c.requires.made c.args.term c.in-Op.op c.in-Op.parts (width_at c.args.terms.now c.args.term) c.in-Op.ensures.node
    c.in-Add-Two.a c.in-Add-Two.b c.in-Add-Two.is-1

pub constant-requires-in-Add-Two : goal.constant-requires-in-Add-Two
constant-requires-in-Add-Two c = left_stands c.requires.made c.args.term c.in-Op.op c.in-Op.parts (width_at c.args.terms.now c.args.term)
    c.in-Op.ensures.node c.in-Add-Two.a c.in-Add-Two.b c.in-Add-Two.is-1

pub constant-requires-in-Sub-Two : goal.constant-requires-in-Sub-Two
constant-requires-in-Sub-Two c = right_stands c.requires.made c.args.term c.in-Op.op c.in-Op.parts (width_at c.args.terms.now c.args.term)
    c.in-Op.ensures.node c.in-Sub-Two.a c.in-Sub-Two.b c.in-Sub-Two.is-1

pub returns-in-Some : goal.returns-in-Some
returns-in-Some c = sum_right c.requires.made c.args.term c.in-Add-Two.a c.in-Add-Two.b (width_at c.args.terms.now c.args.term) c.in-Some.word
    (here_is c.args.terms.now c.args.term c.in-Op.op ops.Add c.in-Op.parts (kinds.Two c.in-Add-Two.a c.in-Add-Two.b)
    (width_at c.args.terms.now c.args.term) c.in-Op.ensures.node c.in-Add-Two.is-0 c.in-Add-Two.is-1) c.in-Some.ensures.word

pub returns-in_ok-word-in-Add-Two : goal.returns-in_ok-word-in-Add-Two
returns-in_ok-word-in-Add-Two c = sum_left c.requires.made c.args.term c.in-Add-Two.a c.in-Add-Two.b (width_at c.args.terms.now c.args.term)
    c.in_ok-word-in-Add-Two.word (here_is c.args.terms.now c.args.term c.in-Op.op ops.Add c.in-Op.parts (kinds.Two c.in-Add-Two.a c.in-Add-Two.b)
    (width_at c.args.terms.now c.args.term) c.in-Op.ensures.node c.in-Add-Two.is-0 c.in-Add-Two.is-1) c.in_ok-word-in-Add-Two.ensures.word

pub returns-in_ok-word-in-Sub-Two : goal.returns-in_ok-word-in-Sub-Two
returns-in_ok-word-in-Sub-Two c =
    sum_less c.requires.made c.args.term c.in-Sub-Two.a c.in-Sub-Two.b (width_at c.args.terms.now c.args.term) c.in_ok-word-in-Sub-Two.word
    (here_is c.args.terms.now c.args.term c.in-Op.op ops.Sub c.in-Op.parts (kinds.Two c.in-Sub-Two.a c.in-Sub-Two.b)
    (width_at c.args.terms.now c.args.term) c.in-Op.ensures.node c.in-Sub-Two.is-0 c.in-Sub-Two.is-1) c.in_ok-word-in-Sub-Two.ensures.word
    c.sub-turned.result
    (c.sub-turned.ensures.width ∙ c.zero.ensures.width)
    (c.sub-turned.ensures.value ∙ (λ j. words.sub (c.zero.ensures.width j) (c.zero.ensures.value j) c.in_ok-word-in-Sub-Two.word.value))
