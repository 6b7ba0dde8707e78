-- Unit propagation, as one recursion over the set of clauses (Davis and Putnam, 1960: the rule for one-literal clauses).
use Rattle.std.specs.Prelude.{ℕ, zero, suc, ℤ, neg_ℤ, Bool, true, false, not, ◌&&◌, if◌then◌else◌, Option, Some, None, is_none, List, [], ◌∷◌, ◌++◌}
use Rattle.std.specs.Prelude.{length, map, filter}
use Rattle.std.specs.List.{list_all}
use Rattle.std.specs.Option.{option_map, option_map_or}
use Rattle.std.specs.Ordering.{int_eq}
use Rattle.vg_cnf.specs.Clauses.{holds, without, is_clause}

-- whether one of the clauses is empty, so that nothing makes it true
abbrev pub has_empty : List (List ℤ) → Bool
has_empty [] = false
has_empty ([] ∷ clauses) = true
has_empty ((l ∷ rest) ∷ clauses) = has_empty clauses

-- the literal of the first clause that has just one
abbrev pub first_unit : List (List ℤ) → Option ℤ
first_unit [] = None
first_unit ([] ∷ clauses) = first_unit clauses
first_unit ((l ∷ rest) ∷ clauses) = if list_all (int_eq l) rest then Some l else first_unit clauses

-- what is left of the clauses where l is true: those that hold l are true, and in the others -l is struck out
abbrev pub given : ℤ → List (List ℤ) → List (List ℤ)
given l clauses = map (without (neg_ℤ l)) (filter (λ c. not (holds c l)) clauses)

-- the literals that propagating units makes true, in turn; none where it reaches an empty clause
abbrev pub propagated_in : ℕ → List (List ℤ) → Option (List ℤ)
propagated_in zero clauses = if has_empty clauses then None else Some []
propagated_in (suc steps) clauses =
    if has_empty clauses then None
    else option_map_or (λ l. option_map (λ more. l ∷ more) (propagated_in steps (given l clauses))) (first_unit clauses) (Some [])

-- each unit takes its own clause away, so there are no more steps than clauses
abbrev pub propagated : List (List ℤ) → Option (List ℤ)
propagated clauses = propagated_in (length clauses) clauses

-- the clauses that say that these literals are false
abbrev pub falsified : List ℤ → List (List ℤ)
falsified literals = map (λ l. neg_ℤ l ∷ []) literals

-- whether a clause follows from others by unit propagation: with its literals assumed false, an empty clause is reached. What is no clause follows from nothing
abbrev pub follows : List (List ℤ) → List ℤ → Bool
follows clauses c = is_clause c && is_none (propagated (falsified c ++ clauses))
