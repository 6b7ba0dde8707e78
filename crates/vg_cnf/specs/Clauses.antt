-- Clauses and their models.
-- A literal is a whole number other than 0, as in the DIMACS format: n stands for variable n, and -n for its negation. The variables are numbered from 1.
-- A clause is written as a list of literals, in which one that is repeated counts once.
use Rattle.std.specs.Prelude.{◌≡◌, ℕ, zero, suc, ◌<◌, ◌≤◌, ℤ, pos, negsuc, neg_ℤ, unsigned_abs, Bool, false, not, IsTrue, List, length, filter, All}
use Rattle.std.specs.Prelude.{slice_index_or}
use Rattle.std.specs.List.{list_any, list_all}
use Rattle.std.specs.Ordering.{int_eq}

-- ---- literals and clauses

-- whether the list holds this literal
abbrev pub holds : List ℤ → ℤ → Bool
holds literals l = list_any (int_eq l) literals

-- the literals of the list but this one
abbrev pub without : ℤ → List ℤ → List ℤ
without l literals = filter (λ k. not (int_eq l k)) literals

-- a list is a clause where it holds no literal along with its negation (so it doesn't hold 0, its own negation)
abbrev pub is_clause : List ℤ → Bool
is_clause literals = list_all (λ l. not (holds literals (neg_ℤ l))) literals

-- it is a literal of one of the variables up to n
abbrev pub IsOver : ℕ → ℤ → Type 0
IsOver n l = (0 < unsigned_abs l) × (unsigned_abs l ≤ n)

-- clauses over the variables up to a number
pub record ClauseSet : Type 0 where
  pub variables : ℕ
  pub clauses : List (List ℤ)

-- a clause over the variables up to n
pub record IsClauseOver (n : ℕ) (literals : List ℤ) : Type 0 where
  pub clause : IsTrue (is_clause literals)
  pub over : All (IsOver n) literals

-- ---- models: variable n is true where value n - 1 of the list is

-- whether the values make a literal true
abbrev pub makes_literal_true : List Bool → ℤ → Bool
makes_literal_true values (pos zero) = false
makes_literal_true values (pos (suc n)) = slice_index_or values n false
makes_literal_true values (negsuc n) = not (slice_index_or values n false)

-- whether they make a literal of the clause true
abbrev pub makes_true : List Bool → List ℤ → Bool
makes_true values literals = list_any (makes_literal_true values) literals

-- whether they make a literal of each clause true
abbrev pub makes_all_true : List Bool → List (List ℤ) → Bool
makes_all_true values clauses = list_all (makes_true values) clauses

-- a value for each variable, with which each clause is true
pub record IsModel (values : List Bool) (set : ClauseSet) : Type 0 where
  pub each_variable : length values ≡ set.variables
  pub each_clause : IsTrue (makes_all_true values set.clauses)
