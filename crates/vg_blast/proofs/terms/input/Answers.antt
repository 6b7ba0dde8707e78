use Rattle.std.proofs.Common.{sym, ◌∙◌, add-zero}
use Rattle.std.proofs.lemmas.List.{append-nil}
use Rattle.vg_blast.proofs.Inputs.{input_more}
use Rattle.vg_blast.proofs.terms.input.Goals as goal

pub loop-at-init : goal.loop-at-init
loop-at-init c = (
  (λ j. record { variables = sym (add-zero c.args.gates.now.variables) j; clauses = c.args.gates.now.clauses }),
  c.new-word.ensures.items,
  sym (append-nil c.args.names.now.items),
)

pub loop-at-preserved : goal.loop-at-preserved
loop-at-preserved c =
    let more =
    input_more c.args.gates.now c.loop-at.gates c.input_bit.new.gates c.loop-at.word.items c.loop-at.names.items c.input_bit.new.names.items
    c.args.names.now.items c.args.id c.loop-at.at c.in_ok-literal.literal
    c.loop-at.invariant.0 c.in_ok-literal.ensures.gates c.in_ok-literal.ensures.literal c.loop-at.invariant.1 c.loop-at.invariant.2
    c.in_ok-literal.ensures.names in
    (more.0, c.in_ok-push.ensures.items ∙ more.1, more.2)
