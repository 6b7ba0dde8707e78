use Rattle.vg_blast.proofs.Shifts.{stepped_left_result}
use Rattle.vg_blast.proofs.shifting.step_left.Goals as goal

pub returns : goal.returns
returns c =
    stepped_left_result c.args.gates.now c.choice.new.gates c.args.moved.now c.in_ok-further.further.items c.deref.result.now c.args.by
    c.falsity.result c.args.distance c.choice.result
    c.falsity.ensures.stood c.falsity.ensures.literal c.requires.within c.in_ok-further.ensures c.deref.ensures.value c.choice.ensures
