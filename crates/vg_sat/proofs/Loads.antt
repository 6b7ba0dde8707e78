-- Clauses loaded one by one.
use Rattle.std.proofs.Common.{◌≡◌, ℕ, ◌+◌, ◌≤◌, List, [], ◌∷◌, ◌++◌, length, take, refl, sym, ap, ◌∙◌, subst}
use Rattle.std.specs.Prelude.{ℤ, Some, IsSome, slice_get}
use Rattle.std.proofs.lemmas.List.{take_more, take_all, take-append-drop}
use Rattle.std.proofs.lemmas.Option.{slice_get_within, get_or_from_slice_get}
use Rattle.std.specs.Prelude.{drop}
use Rattle.vg_cnf.specs.Clauses.{ClauseSet}
use Rattle.vg_cnf.specs.Orders.{Reaches, conflict, unit}
use Rattle.vg_cnf.specs.Propagation.{propagated}
use Rattle.vg_units.specs.Searching.{Search, IsAtRest}
use Rattle.vg_units.proofs.Reaching.{found_before}
use Rattle.vg_sat.specs.Loading.{IsLoaded}

-- the first clauses are loaded
pub record Loading (set : ClauseSet) (s : Search) (at : ℕ) : Type 0 where
  pub variables : s.variables ≡ set.variables
  pub clauses : s.clauses ≡ take at set.clauses
  pub rest : IsAtRest s
  pub undecided : IsSome (propagated s.clauses)

pub one_more : (cs : List (List ℤ)) (at : ℕ) (c : List ℤ) → slice_get cs at ≡ Some c → take (at + 1) cs ≡ take at cs ++ c ∷ []
one_more cs at c here = take_more cs at c (slice_get_within cs at c here) ∙ ap (λ d. take at cs ++ d ∷ []) (get_or_from_slice_get cs at c c here)

pub loading_on : (set : ClauseSet) (s new : Search) (at : ℕ) (c : List ℤ) → slice_get set.clauses at ≡ Some c → new.variables ≡ s.variables
    → new.clauses ≡ s.clauses ++ c ∷ [] → IsAtRest new →
    IsSome (propagated new.clauses) → Loading set s at → Loading set new (at + 1)
loading_on set s new at c here variables clauses rest undecided h =
    record {
      variables = variables ∙ h.variables;
      clauses = clauses ∙ ap (λ cs. cs ++ c ∷ []) h.clauses ∙ sym (one_more set.clauses at c here);
      rest = rest;
      undecided = undecided;
    }

reaches_more : (cs ds : List (List ℤ)) (made : List ℤ) → Reaches cs made → Reaches (cs ++ ds) made
reaches_more cs ds made (conflict c at falses) = conflict c (found_before cs ds c at) falses
reaches_more cs ds made (unit c l at falses rest) = unit c l (found_before cs ds c at) falses (reaches_more cs ds (l ∷ made) rest)

pub loading_refuted : (set : ClauseSet) (s : Search) (at : ℕ) (c : List ℤ) → slice_get set.clauses at ≡ Some c → Reaches (s.clauses ++ c ∷ []) []
    → Loading set s at → Reaches set.clauses []
loading_refuted set s at c here reaches h =
    let first : Reaches (take (at + 1) set.clauses) [] =
    subst (λ cs. Reaches cs []) (ap (λ cs. cs ++ c ∷ []) h.clauses ∙ sym (one_more set.clauses at c here)) reaches in
    subst (λ cs. Reaches cs []) (take-append-drop (at + 1) set.clauses) (reaches_more (take (at + 1) set.clauses) (drop (at + 1) set.clauses) [] first)

pub loading_ends : (set : ClauseSet) (s : Search) (at : ℕ) → length set.clauses ≤ at → Loading set s at → IsLoaded set s
loading_ends set s at end h =
    let whole : s.clauses ≡ set.clauses = h.clauses ∙ take_all at set.clauses end in
    record { variables = h.variables; clauses = whole; rest = h.rest; undecided = subst (λ cs. IsSome (propagated cs)) whole h.undecided }

pub loading_starts : (set : ClauseSet) (s : Search) → s.variables ≡ set.variables → s.clauses ≡ [] → IsAtRest s → Loading set s 0
loading_starts set s variables clauses rest =
    record { variables = variables; clauses = clauses; rest = rest; undecided = subst (λ (cs : List (List ℤ)). IsSome (propagated cs)) (sym clauses) refl }
