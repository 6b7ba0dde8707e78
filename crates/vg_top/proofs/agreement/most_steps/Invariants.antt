use Rattle.vg_top.specs.Agreement.{IsMostSteps}
use Rattle.vg_top.proofs.agreement.most_steps.Given as goal

abbrev pub invariant-loop-port : goal.invariant-loop-port
invariant-loop-port l = IsMostSteps l.c l.port l.most
