use Rattle.std.proofs.Common.{take}
use Rattle.std.specs.Prelude.{All}
use Rattle.vg_cnf.specs.Clauses.{IsClauseOver}
use Rattle.vg_sat.proofs.solver.each_is_over.Given as goal

abbrev pub invariant-loop-at : goal.invariant-loop-at
invariant-loop-at l = All (IsClauseOver l.clauses.variables) (take l.at l.clauses.clauses)
