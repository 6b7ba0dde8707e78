-- Lists of clauses that each follow by unit propagation: refutations, and the lists with which a search is given up.
use Rattle.std.specs.Prelude.{◌≡◌, ℕ, ◌+◌, ℤ, Bool, true, false, if◌then◌else◌, Option, Some, None, IsTrue, IfSome, IsSome, IsNone, List, [], ◌∷◌}
use Rattle.std.specs.Prelude.{◌++◌, All, Any, AllPairs, Contains, ◌↔◌}
use Rattle.std.specs.Option.{option_map}
use Rattle.vg_cnf.specs.Clauses.{ClauseSet, without, IsClauseOver}
use Rattle.vg_cnf.specs.Propagation.{propagated, falsified, follows}

-- the number, from 1, of the first list that doesn't follow from the clauses and the lists before it
abbrev pub first_unfollowed : List (List ℤ) → List (List ℤ) → Option ℕ
first_unfollowed clauses [] = None
first_unfollowed clauses (c ∷ steps) =
    if follows clauses c then option_map (λ n. n + 1) (first_unfollowed (clauses ++ c ∷ []) steps) else Some 1

-- whether there is a last list and it is empty
abbrev pub ends_empty : List (List ℤ) → Bool
ends_empty [] = false
ends_empty ([] ∷ []) = true
ends_empty ((l ∷ rest) ∷ []) = false
ends_empty (c ∷ d ∷ steps) = ends_empty (d ∷ steps)

-- a good refutation of the clauses: each list follows in turn, and the last is the empty clause
pub record IsRefutation (clauses steps : List (List ℤ)) : Type 0 where
  pub each_follows : IsNone (first_unfollowed clauses steps)
  pub ends : IsTrue (ends_empty steps)

-- ---- a search given up

-- two lists are one clause
abbrev pub IsSameClause : List ℤ → List ℤ → Type 0
IsSameClause c d = (l : ℤ) → Contains c l ↔ Contains d l

-- no clause with fewer literals would follow, and with all literals but the first assumed false that one isn't made true
pub record IsNew (clauses : List (List ℤ)) (c : List ℤ) : Type 0 where
  pub each_needed : All (λ l. IsSome (propagated (falsified (without l c) ++ clauses))) c
  pub first_open : (l : ℤ) (rest : List ℤ) → c ≡ l ∷ rest → IfSome (propagated (falsified (without l c) ++ clauses)) (λ made. ¬ Contains made l)

-- each list is new after the clauses and the lists before it
abbrev pub AreNewInTurn : List (List ℤ) → List (List ℤ) → Type 0
AreNewInTurn clauses [] = Unit {0}
AreNewInTurn clauses (c ∷ steps) = IsNew clauses c × AreNewInTurn (clauses ++ c ∷ []) steps

-- a spent list: different new clauses that follow in turn, and from which the empty clause doesn't yet follow
pub record IsSpent (set : ClauseSet) (steps : List (List ℤ)) : Type 0 where
  pub clauses : All (IsClauseOver set.variables) steps
  pub distinct : AllPairs (λ c d. ¬ IsSameClause c d) steps
  pub none_given : All (λ c. ¬ Any (IsSameClause c) set.clauses) steps
  pub each_follows : IsNone (first_unfollowed set.clauses steps)
  pub each_new : AreNewInTurn set.clauses steps
  pub open_end : IsSome (propagated (set.clauses ++ steps))
