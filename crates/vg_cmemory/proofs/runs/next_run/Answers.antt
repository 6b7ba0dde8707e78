use Rattle.std.proofs.Common.{◌<◌, ◌∙◌, ap, arith}
use Rattle.vg_cmemory.specs.State.{at_rest}
use Rattle.vg_cmemory.proofs.Slots.{all_rested, rest_is_one}
use Rattle.vg_cmemory.proofs.runs.next_run.Goals as goal

pub returns-clause-value : goal.returns-clause-value
returns-clause-value c =
    let later : 0 < 1 = omega arith in
    all_rested 0 1 c.forget_all.new.locals.items later c.forget_all.ensures.runs
    ∙ ap at_rest (rest_is_one 0 c.args.run c.forget_all.new.locals.items ∙ c.forget_all.ensures.value)
