use Rattle.vg_rup.proofs.Passing.{PassedOver}
use Rattle.vg_rup.proofs.propagation.run_pass.Given as goal

abbrev pub invariant-loop-at : goal.invariant-loop-at
invariant-loop-at l = PassedOver l.clauses l.initial.made l.at l.made l.grew
