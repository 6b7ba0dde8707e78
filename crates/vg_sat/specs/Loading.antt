-- Clauses that are loaded. No public clause rests on this file.
use Rattle.std.specs.Prelude.{◌≡◌, IsSome}
use Rattle.vg_cnf.specs.Clauses.{ClauseSet}
use Rattle.vg_cnf.specs.Propagation.{propagated}
use Rattle.vg_units.specs.Searching.{Search, IsAtRest}

-- the search has the same clauses, and unit propagation reaches no empty clause from them
pub record IsLoaded (set : ClauseSet) (s : Search) : Type 0 where
  pub variables : s.variables ≡ set.variables
  pub clauses : s.clauses ≡ set.clauses
  pub rest : IsAtRest s
  pub undecided : IsSome (propagated set.clauses)
