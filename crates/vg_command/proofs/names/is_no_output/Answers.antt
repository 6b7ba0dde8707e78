use Rattle.vg_command.specs.Commands.{words_in}
use Rattle.vg_command.proofs.WordLists.{none_of-more, more-none_of, refuted}
use Rattle.vg_command.proofs.names.is_no_output.Goals as goal

pub returns-then-not-is_same : goal.returns-then-not-is_same
returns-then-not-is_same c =
    let n = c.args.n.now in (
      (λ is. none_of-more n.log.now (words_in n.outs.now) c.args.name.now (refuted c.is_same.ensures.1 c.if-not-is_same.true) (c.is_none_of.ensures.0 is)),
      (λ none. c.is_none_of.ensures.1 (more-none_of n.log.now (words_in n.outs.now) c.args.name.now none).1),
    )
