use Rattle.vg_blast.proofs.Shifts.{past_result}
use Rattle.vg_blast.proofs.shifting.unless_past.Goals as goal

pub returns : goal.returns
returns c =
    past_result c.args.gates.now c.any.new.gates c.choice.new.gates c.args.moved.now c.args.far.now c.in_ok-filled.filled.items c.deref.result.now
    c.in_ok-past.past c.negated.result c.args.fill c.choice.result
    c.negated.ensures c.in_ok-filled.ensures c.deref.ensures.value c.in_ok-past.ensures c.choice.ensures
