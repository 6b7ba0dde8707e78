use Rattle.std.proofs.lemmas.Bool.{false≢true}
use Rattle.vg_command.specs.Commands.{words_in}
use Rattle.vg_command.proofs.WordLists.{none_of-inputs, none_of-parts, refuted}
use Rattle.vg_command.proofs.names.is_no_input.Goals as goal
use Rattle.vg_command.proofs.names.is_no_input.Goals.{then-is_same-via-then-is_same, then-is_same-via-else-is_same+then-is_same-2}
use Rattle.vg_command.proofs.names.is_no_input.Goals.{then-is_same-via-else-is_same+else-is_same-2+then-is_same-3}

pub returns-then-is_same : goal.returns-then-is_same
returns-then-is_same c =
    let n = c.args.n.now in
    let parts = none_of-parts n.c.now n.spec.now n.conf.now (words_in n.ins.now) c.args.name.now in (
      (λ is. absurd (false≢true is)),
      (λ none. absurd (elim c.then-is_same.branch [
        | then-is_same-via-then-is_same w ↦ (parts none).0 (c.is_same.ensures.0 w.if-is_same.true)
        | then-is_same-via-else-is_same+then-is_same-2 w ↦ (parts none).1 (w.is_same-else-is_same.ensures.0 w.if-is_same-2.true)
        | then-is_same-via-else-is_same+else-is_same-2+then-is_same-3 w ↦ (parts none).2 (w.is_same-else-is_same-2.ensures.0 w.if-is_same-3.true)
      ])),
    )

pub returns : goal.returns
returns c =
    let n = c.args.n.now in
    let not_c = refuted c.is_same.ensures.1 c.if-is_same.false in
    let not_spec = refuted c.is_same-else-is_same.ensures.1 c.if-is_same-2.false in
    let not_conf = refuted c.is_same-else-is_same-2.ensures.1 c.if-is_same-3.false in (
      (λ is. none_of-inputs n.c.now n.spec.now n.conf.now (words_in n.ins.now) c.args.name.now not_c not_spec not_conf (c.is_none_of.ensures.0 is)),
      (λ none. c.is_none_of.ensures.1 (none_of-parts n.c.now n.spec.now n.conf.now (words_in n.ins.now) c.args.name.now none).3),
    )
