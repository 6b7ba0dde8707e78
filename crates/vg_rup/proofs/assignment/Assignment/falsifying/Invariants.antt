use Rattle.std.proofs.Common.{take}
use Rattle.vg_cnf.specs.Orders.{negations}
use Rattle.vg_rup.specs.Assignment.{SameLiterals}
use Rattle.vg_rup.proofs.assignment.Assignment.falsifying.Given as goal

-- the literals read so far are false
abbrev pub invariant-loop-literal : goal.invariant-loop-literal
invariant-loop-literal l = SameLiterals l.made (negations (take l.literal-index l.clause))
