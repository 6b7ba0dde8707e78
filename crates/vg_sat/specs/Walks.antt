-- Where decisions lead. No public clause rests on this file.
use Rattle.std.specs.Prelude.{◌≡◌, ℕ, ◌+◌, ◌<◌, ℤ, pos, Bool, true, false, List, length, slice_index_or, All}
use Rattle.vg_cnf.specs.Clauses.{holds, IsModel, IsOver}
use Rattle.vg_cnf.specs.Orders.{Settled, negations}
use Rattle.vg_units.specs.Lists.{IsListedFrom}
use Rattle.vg_units.specs.Propagating.{AreWithin}
use Rattle.vg_units.specs.Searching.{Search, IsSound}
use Rattle.vg_sat.specs.Learned.{IsLearnable, IsLearned}
use Rattle.vg_sat.specs.declared.walking.Walk.{Walk}
use Rattle.vg_sat.specs.declared.walking.Walk.TheVariants as walks
use Rattle.vg_sat.specs.declared.learning.Step.{Step}
use Rattle.vg_sat.specs.declared.learning.Step.TheVariants.{Model, Learned}

-- a model, or a clause that can be learned; of what the conflict was traced back to nothing is said
abbrev pub IsWalk : Search → Walk → Type 0
IsWalk s (walks.Model values) = IsModel values (record { variables = s.variables; clauses = s.clauses })
IsWalk s (walks.Conflict decisions traced) = IsLearnable s.variables s.clauses decisions.items

-- a model, or a clause to be learned
abbrev pub IsStep : Search → Step → Type 0
IsStep s (Model values) = IsModel values (record { variables = s.variables; clauses = s.clauses })
IsStep s (Learned clause) = IsLearned s.variables s.clauses clause.items

-- the value of each variable says whether it is true
pub record AreValues (s : Search) (values : List Bool) : Type 0 where
  pub each : length values ≡ s.variables
  pub value : (n : ℕ) → n < s.variables → slice_index_or values n false ≡ holds s.trail (pos (n + 1))

-- the decisions are the negations of a clause's literals, and no clause is false
pub record Walked (s : Search) (clause : List ℤ) : Type 0 where
  pub propagated : s.head ≡ length s.trail
  pub settled : All (Settled s.trail) s.clauses
  pub sound : IsSound s
  pub over : All (IsOver s.variables) clause
  pub falses : AreWithin (negations clause) s.trail
  pub decided : (at : ℕ) → IsListedFrom s.starts 0 at → (at < length s.trail) × (holds (negations clause) (slice_index_or s.trail at (pos 0)) ≡ true)
