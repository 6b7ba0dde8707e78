-- What a solver's answers say of the clauses.
use Rattle.std.specs.Prelude.{◌≡◌, ℕ, length}
use Rattle.vg_cnf.specs.Clauses.{ClauseSet, IsModel}
use Rattle.vg_cnf.specs.Refutations.{IsRefutation, IsSpent}
use Rattle.vg_sat.specs.declared.answer.Answer.{Answer}
use Rattle.vg_sat.specs.declared.answer.Answer.TheVariants.{Model, Refuted, Spent}

-- a model makes the clauses true, a refutation is good, and what was learned before giving up is a spent list of just as many clauses as were allowed
abbrev pub IsAnswer : ClauseSet → ℕ → Answer → Type 0
IsAnswer set limit (Model values) = IsModel values set
IsAnswer set limit (Refuted steps) = IsRefutation set.clauses steps
IsAnswer set limit (Spent steps) = IsSpent set steps × (length steps ≡ limit)

-- a model or a refutation
abbrev pub IsDecided : Answer → Type 0
IsDecided (Model values) = Unit {0}
IsDecided (Refuted steps) = Unit {0}
IsDecided (Spent steps) = ⊥
