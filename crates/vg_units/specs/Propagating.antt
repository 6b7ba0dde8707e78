-- What unit propagation does, step by step, where two literals of each clause are watched. Public clauses use only AreFalse, IsForced, Grown and
-- AreWithin of this file.
use Rattle.std.specs.Prelude.{◌≡◌, ℕ, ◌<◌, ℤ, neg_ℤ, true, false, Option, Some, None, List, [], ◌∷◌, ◌++◌, length, Contains, ◌⊎◌}
use Rattle.std.specs.Ordering.{int_eq}
use Rattle.vg_cnf.specs.Clauses.{holds, IsOver}
use Rattle.vg_units.specs.Trails.{Made}
use Rattle.vg_units.specs.Watching.{Watching, clause_of, pair_of, clause_in, IsLeftOut}
use Rattle.vg_units.specs.declared.watches.Pair.{Pair}
use Rattle.vg_units.specs.declared.propagation.Visit.{Visit}
use Rattle.vg_units.specs.declared.propagation.Visit.TheVariants.{Kept, Moved, Conflict}

-- each literal of the clause is false
abbrev pub AreFalse : List ℤ → List ℤ → Type 0
AreFalse made clause = (k : ℤ) → holds clause k ≡ true → holds made (neg_ℤ k) ≡ true

-- a clause forces the literal: all its others are false
pub record IsForced (clauses : List (List ℤ)) (made : List ℤ) (literal : ℤ) : Type 0 where
  pub clause : List ℤ
  pub among : Contains clauses clause
  pub held : holds clause literal ≡ true
  pub others_false : (k : ℤ) → holds clause k ≡ true → int_eq k literal ≡ false → holds made (neg_ℤ k) ≡ true

-- literals that clauses force were made true one by one
pub data Grown (clauses : List (List ℤ)) (old : List ℤ) : List ℤ → Type 0 where
  same : Grown clauses old old
  more : (made : List ℤ) (literal : ℤ) → Grown clauses old made → IsForced clauses made literal → holds made literal ≡ false
      → holds made (neg_ℤ literal) ≡ false →
      Grown clauses old (made ++ literal ∷ [])

-- ---- watched literals

-- a clause needs no look: it is true, or neither of its two watched literals is among those known to be false
pub data IsWatched (clause : List ℤ) (pair : Pair) (trues falses : List ℤ) : Type 0 where
  by_true : (l : ℤ) → holds clause l ≡ true → holds trues l ≡ true → IsWatched clause pair trues falses
  by_open : int_eq pair.first pair.second ≡ false → holds clause pair.first ≡ true → holds clause pair.second ≡ true → holds falses (neg_ℤ pair.first) ≡ false →
      holds falses (neg_ℤ pair.second) ≡ false → IsWatched clause pair trues falses

abbrev pub IsWatchedAt : Watching → ℕ → List ℤ → List ℤ → Type 0
IsWatchedAt w at trues falses = IsWatched (clause_of w at) (pair_of w at) trues falses

-- no clause needs a look
abbrev pub AreWatched : Watching → List ℤ → List ℤ → Type 0
AreWatched w trues falses = (at : ℕ) → at < length w.clauses → IsWatchedAt w at trues falses

-- some literals are among others
abbrev pub AreWithin : List ℤ → List ℤ → Type 0
AreWithin few many = (k : ℤ) → holds few k ≡ true → holds many k ≡ true

-- the clauses stay, forced literals are made true, and a clause that needed no look at a time before needs none for that
pub record Advances (old new : Watching) (before after : Made) : Type 0 where
  pub variables : new.variables ≡ old.variables
  pub trail_variables : after.variables ≡ before.variables
  pub clauses : new.clauses ≡ old.clauses
  pub watched : (trues falses : List ℤ) → AreWithin falses before.literals → (at : ℕ) → at < length old.clauses → IsWatchedAt old at trues falses
      → IsWatchedAt new at trues falses
  pub grown : Grown old.clauses before.literals after.literals

-- ---- one clause

-- the other of a clause's two watched literals
pub record IsOther (w : Watching) (clause : ℕ) (literal other : ℤ) : Type 0 where
  pub within : clause < length w.clauses
  pub over : IsOver w.variables other
  pub held : holds (clause_of w clause) other ≡ true
  pub pair : (((pair_of w clause).first ≡ literal) × ((pair_of w clause).second ≡ other)) ⊎
      (((pair_of w clause).second ≡ literal) × ((pair_of w clause).first ≡ other))

-- a literal of the clause that is not false, but for one
abbrev pub IsOpenBeside : List ℤ → List ℤ → ℤ → ℤ → Type 0
IsOpenBeside made clause other open_one = (holds clause open_one ≡ true) × (int_eq open_one other ≡ false) × (holds made (neg_ℤ open_one) ≡ false)

-- all literals of the clause are false, but for one that may not be
abbrev pub AreFalseBeside : List ℤ → List ℤ → ℤ → Type 0
AreFalseBeside made clause other = (k : ℤ) → holds clause k ≡ true → int_eq k other ≡ false → holds made (neg_ℤ k) ≡ true

-- a clause that needed no look needs none for one more false literal
abbrev pub Settles : Watching → Watching → List ℤ → List ℤ → ℤ → ℕ → Type 0
Settles old new before made literal clause =
    (falses : List ℤ) → AreWithin falses before → IsWatchedAt old clause made falses → IsWatchedAt new clause made (neg_ℤ literal ∷ falses)

-- the literal was made true, or is false, as the clause is then
abbrev pub Forces : Made → Made → ℕ → ℤ → Visit → Type 0
Forces before after clause literal Kept = (holds before.literals (neg_ℤ literal) ≡ false) ×
    (after ≡ record before { literals = before.literals ++ literal ∷ [] })
Forces before after clause literal Moved = ⊥
Forces before after clause literal (Conflict at) = (at ≡ clause) × (holds before.literals (neg_ℤ literal) ≡ true) × (after ≡ before)

-- what a visit to the clause at a place of a false literal's list did
abbrev pub Visits : Watching → Watching → List ℤ → List ℤ → ℤ → ℕ → ℕ → Visit → Type 0
Visits old new before made literal at clause Kept =
    (new ≡ old) × (clause < length old.clauses → Settles old new before made literal clause)
Visits old new before made literal at clause Moved =
    IsLeftOut old.lists new.lists literal at clause × (clause < length old.clauses → Settles old new before made literal clause)
Visits old new before made literal at clause (Conflict at_clause) = (at_clause < length old.clauses) × AreFalse made (clause_in old.clauses at_clause)

-- whether propagation ended with no clause that needs a look, or at a false clause
abbrev pub Ends : Watching → List ℤ → List ℤ → Option ℕ → Type 0
Ends w made falses None = AreWatched w made falses
Ends w made falses (Some clause) = (clause < length w.clauses) × AreFalse made (clause_of w clause)
