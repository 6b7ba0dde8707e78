use Rattle.std.proofs.Common.{◌≡◌, drop}
use Rattle.vg_cnf.specs.Clauses.{makes_all_true}
use Rattle.vg_cnf.proofs.clauses.Clauses.is_satisfied_by.Given as goal

-- the clauses that are still to be read decide
abbrev pub invariant-loop-at : goal.invariant-loop-at
invariant-loop-at l = makes_all_true l.values (drop l.at l.self.clauses) ≡ makes_all_true l.values l.self.clauses
