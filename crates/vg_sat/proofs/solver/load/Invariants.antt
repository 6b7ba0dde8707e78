use Rattle.vg_sat.proofs.Loads.{Loading}
use Rattle.vg_sat.proofs.solver.load.Given as goal

abbrev pub invariant-loop-at : goal.invariant-loop-at
invariant-loop-at l = Loading l.clauses l.search l.at
