use Rattle.vg_top.proofs.Agreeing.{most_next}
use Rattle.vg_top.proofs.agreement.most_steps.Goals as goal

pub loop-port-preserved : goal.loop-port-preserved
loop-port-preserved c = most_next c.args.c.now c.loop-port.port c.loop-port.most c.max-most.result c.loop-port.invariant
    (rw c.steps.ensures at c.max-most.ensures)
