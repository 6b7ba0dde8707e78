-- Clauses and the lists in which they are found by a watched literal. No public clause rests on this file.
use Rattle.std.specs.Prelude.{◌≡◌, ◌≢◌, ℕ, ◌+◌, ◌*◌, ◌<◌, ℤ, pos, true, List, [], ◌∷◌, ◌++◌, length, All, slice_index_or, slice_set, ◌⊎◌}
use Rattle.vg_cnf.specs.Clauses.{holds, IsClauseOver}
use Rattle.vg_units.specs.Codes.{code}
use Rattle.vg_units.specs.Lists.{IsListedFrom}
use Rattle.vg_units.specs.declared.watches.Pair.{Pair}

-- clauses, the two watched literals of each, and for each literal's place the clauses to look at when it becomes false
pub record Watching : Type 0 where
  pub variables : ℕ
  pub clauses : List (List ℤ)
  pub pairs : List Pair
  pub lists : List (List ℕ)

abbrev pub no_pair : Pair
no_pair = record { first = pos 0; second = pos 0 }

abbrev pub pair_in : List Pair → ℕ → Pair
pair_in pairs at = slice_index_or pairs at no_pair

abbrev pub list_in : List (List ℕ) → ℤ → List ℕ
list_in lists literal = slice_index_or lists (code literal) []

abbrev pub clause_in : List (List ℤ) → ℕ → List ℤ
clause_in clauses at = slice_index_or clauses at []

abbrev pub pair_of : Watching → ℕ → Pair
pair_of w at = pair_in w.pairs at

abbrev pub list_of : Watching → ℤ → List ℕ
list_of w literal = list_in w.lists literal

abbrev pub clause_of : Watching → ℕ → List ℤ
clause_of w at = clause_in w.clauses at

-- each clause holds its watched literals, and stands in their lists
pub record IsListed (variables : ℕ) (clauses : List (List ℤ)) (pairs : List Pair) (lists : List (List ℕ)) : Type 0 where
  pub places : length lists ≡ 2 * variables + 2
  pub paired : length pairs ≡ length clauses
  pub over : All (IsClauseOver variables) clauses
  pub held_first : (at : ℕ) → at < length clauses → holds (clause_in clauses at) (pair_in pairs at).first ≡ true
  pub held_second : (at : ℕ) → at < length clauses → holds (clause_in clauses at) (pair_in pairs at).second ≡ true
  pub listed_first : (at : ℕ) → at < length clauses → IsListedFrom (list_in lists (pair_in pairs at).first) 0 at
  pub listed_second : (at : ℕ) → at < length clauses → IsListedFrom (list_in lists (pair_in pairs at).second) 0 at

-- one of the two watched literals
abbrev pub IsOneOf : Pair → ℤ → Type 0
IsOneOf pair literal = (pair.first ≡ literal) ⊎ (pair.second ≡ literal)

-- the clauses and their watched literals stay
abbrev pub IsSame : Watching → Watching → Type 0
IsSame old new = (new.variables ≡ old.variables) × (new.clauses ≡ old.clauses) × (new.pairs ≡ old.pairs)

-- one clause more
abbrev pub IsAdded : Watching → Watching → List ℤ → Pair → Type 0
IsAdded old new clause pair = (new.variables ≡ old.variables) × (new.clauses ≡ old.clauses ++ clause ∷ []) × (new.pairs ≡ old.pairs ++ pair ∷ [])

-- it is no clause, or one that doesn't watch the literal
abbrev pub IsUnwatched : Watching → ℤ → ℕ → Type 0
IsUnwatched w literal clause = clause < length w.clauses → (pair_of w clause).first ≢ literal × (pair_of w clause).second ≢ literal

-- a clause is not in the literal's list any more; the others from the place on are
pub record IsLeftOut (old new : List (List ℕ)) (literal : ℤ) (at clause : ℕ) : Type 0 where
  pub shorter : length (list_in new literal) + 1 ≡ length (list_in old literal)
  pub others : (other : ℕ) → other ≢ clause → IsListedFrom (list_in old literal) at other → IsListedFrom (list_in new literal) at other

-- one clause watches other literals
abbrev pub IsMoved : Watching → Watching → ℕ → Pair → Type 0
IsMoved old new clause pair = (new.variables ≡ old.variables) × (new.clauses ≡ old.clauses) × (new.pairs ≡ slice_set old.pairs clause pair)
