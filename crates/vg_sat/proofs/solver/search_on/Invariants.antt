use Rattle.vg_sat.proofs.Spending.{Spending}
use Rattle.vg_sat.proofs.solver.search_on.Given as goal

abbrev pub invariant-loop-count : goal.invariant-loop-count
invariant-loop-count l = Spending l.clauses l.search l.learned l._count
