-- What a search keeps, at its levels too. Public clauses use only start_in of this file.
use Rattle.std.specs.Prelude.{◌≡◌, ℕ, ◌<◌, ◌≤◌, List, length, take, slice_index_or, All}
use Rattle.vg_cnf.specs.Clauses.{IsClauseOver}
use Rattle.vg_cnf.specs.Orders.{IsConsistent}
use Rattle.vg_units.specs.Trails.{Made}
use Rattle.vg_units.specs.Watching.{Watching}
use Rattle.vg_units.specs.Propagating.{AreWatched}
use Rattle.vg_units.specs.Searching.{IsChain}

-- where a level begins
abbrev pub start_in : List ℕ → ℕ → ℕ
start_in starts level = slice_index_or starts level 0

-- no clause needs a look, now and where each level begins
pub record IsKept (w : Watching) (t : Made) (starts : List ℕ) (head : ℕ) : Type 0 where
  pub variables : w.variables ≡ t.variables
  pub over : All (IsClauseOver w.variables) w.clauses
  pub within : head ≤ length t.literals
  pub watched : AreWatched w t.literals (take head t.literals)
  pub before : (level : ℕ) → level < length starts → start_in starts level ≤ head
  pub levels : (level : ℕ) → level < length starts → AreWatched w (take (start_in starts level) t.literals) (take (start_in starts level) t.literals)
  pub sorted : (level next : ℕ) → level ≤ next → next < length starts → start_in starts level ≤ start_in starts next
  pub consistent : IsConsistent t.literals
  pub chain : IsChain w.clauses t.literals starts
