use Rattle.std.proofs.Common.{◌≡◌, length, get_or, sym, subst, ap, ◌∙◌}
use Rattle.std.proofs.lemmas.List.{get_or_default}
use Rattle.vg_blast.specs.Circuits.{truth}
use Rattle.vg_blast.specs.Blasting.{BitName}
use Rattle.vg_blast.specs.Assigning.{SetsBit}
use Rattle.vg_blast.proofs.Assignments.{filled_more}
use Rattle.vg_blast.proofs.assigning.fill.Goals as goal

pub set_bit-requires-clause-variable : goal.set_bit-requires-clause-variable
set_bit-requires-clause-variable c = (c.requires.names.named c.loop-k.k c.index-names-k.result c.loop-k-test.true).variable

pub loop-k-preserved : goal.loop-k-preserved
loop-k-preserved c =
    let names = c.args.names.now in
    let k = c.loop-k.k in
    let name : BitName = c.index-names-k.result in
    let first : get_or names k name ≡ name = sym c.index-names-k.is in
    let second : get_or names k c.index-names-k-in-loop-k.result ≡ name = get_or_default names k c.index-names-k-in-loop-k.result name
    c.loop-k-test.true ∙ first in
    let third : get_or names k c.index-names-k-in-loop-k-2.result ≡ name = get_or_default names k c.index-names-k-in-loop-k-2.result name
    c.loop-k-test.true ∙ first in
    filled_more c.args.values.now c.args.terms.now c.loop-k.words.items c.set_bit.new.words.items names (length c.args.values.now) k name
    c.makes_literal_true.result c.requires.names c.loop-k-test.true
    c.index-names-k.is (c.makes_literal_true.ensures ∙ ap (λ (b : BitName). truth c.args.values.now b.2) third) c.loop-k.invariant
    (subst (λ (b : BitName). SetsBit c.args.terms.now c.loop-k.words.items c.set_bit.new.words.items b.0 name.1 c.makes_literal_true.result) first
    (subst (λ (b : BitName). SetsBit c.args.terms.now c.loop-k.words.items c.set_bit.new.words.items (get_or names k name).0 b.1
    c.makes_literal_true.result) second c.set_bit.ensures))
