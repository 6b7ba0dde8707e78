use Rattle.std.proofs.Common.{◌≡◌, refl, sym, subst, ap, ◌∙◌, arith}
use Rattle.vg_bits.specs.declared.word.Word.{Word}
use Rattle.std.proofs.lemmas.Option.{slice_get_within, get_or_from_slice_get}
use Rattle.vg_term.specs.Terms.{width_at}
use Rattle.vg_term.specs.declared.node.Node.TheVariants as nodes
use Rattle.vg_blast.specs.Assigning.{SetsBit}
use Rattle.vg_blast.proofs.Assignments.{bit_set}
use Rattle.vg_blast.proofs.assigning.set_bit.Goals as goal

pub index-word-requires : goal.index-word-requires
index-word-requires c =
    let word = c.requires.assigns c.args.id.0 (nodes.Var c.in-Var.number c.in-Var.width, width_at c.args.terms.now c.args.id) c.in-Var.ensures.node in
    omega (arith, slice_get_within c.args.words.now.items c.in-Var.number word.0 word.1, c.args.words.now.ok)

pub with_bit-requires : goal.with_bit-requires
with_bit-requires c =
    let word = c.requires.assigns c.args.id.0 (nodes.Var c.in-Var.number c.in-Var.width, width_at c.args.terms.now c.args.id) c.in-Var.ensures.node in
    let is : c.index-word.result.now ≡ word.0 = c.index-word.ensures ∙ get_or_from_slice_get c.args.words.now.items c.in-Var.number word.0
    c.index-word.result.now word.1 in
    let wide : c.index-word.result.now.width ≡ width_at c.args.terms.now c.args.id = ap (λ (x : Word). x.width) is ∙ word.2 in
    omega (arith, wide, c.requires.within)

pub index_mut-requires : goal.index_mut-requires
index_mut-requires c =
    let word = c.requires.assigns c.args.id.0 (nodes.Var c.in-Var.number c.in-Var.width, width_at c.args.terms.now c.args.id) c.in-Var.ensures.node in
    omega (arith, slice_get_within c.args.words.now.items c.in-Var.number word.0 word.1, c.args.words.now.ok)

pub returns-then-holds : goal.returns-then-holds
returns-then-holds c =
    let word = c.requires.assigns c.args.id.0 (nodes.Var c.in-Var.number c.in-Var.width, width_at c.args.terms.now c.args.id) c.in-Var.ensures.node in
    subst (SetsBit c.args.terms.now c.args.words.now.items _ c.args.id c.args.at) (sym c.if-holds.true)
    (bit_set c.node.ensures.made c.args.words.now.items _ c.args.id c.args.at c.in-Var.number c.in-Var.width (width_at c.args.terms.now c.args.id)
    c.index-word.result.now c.with_bit.result c.in-Var.ensures.node c.requires.assigns
    (slice_get_within c.args.words.now.items c.in-Var.number word.0 word.1) c.index-word.ensures c.with_bit.ensures.width c.with_bit.ensures.set
    c.with_bit.ensures.others refl)
