-- Clauses that are known, one by one.
use Rattle.std.proofs.Common.{◌≡◌, List, [], ◌∷◌, ◌++◌, sym, ◌∙◌, subst, true, false}
use Rattle.std.specs.Prelude.{ℤ, pos, Bool, Option, Some, None}
use Rattle.std.proofs.lemmas.Bool.{false≢true}
use Rattle.vg_cnf.specs.Clauses.{is_clause}
use Rattle.vg_cnf.specs.Orders.{occurs, negations, Reaches, conflict, unit}
use Rattle.vg_cnf.specs.Propagation.{follows}
use Rattle.vg_cnf.proofs.Orders.{reaches-follows}
use Rattle.vg_units.specs.Searching.{IsAtRest}
use Rattle.vg_units.specs.declared.propagator.Propagator.{Propagator}
use Rattle.vg_units.proofs.Reaching.{found_before}
use Rattle.vg_rup.specs.Knowledge.{IsKnown, IsSearchOf, IsRefutedOf}
use Rattle.vg_rup.proofs.Checking.{nonzero_pushed}
use Rattle.vg_rup.proofs.Passing.{Reaches-more}

-- where the empty clause follows each clause does
pub refuted_follows : (lists : List (List ℤ)) (c : List ℤ) → occurs lists (pos 0) ≡ false → is_clause c ≡ true → Reaches lists [] → follows lists c ≡ true
refuted_follows lists c nonzero clause reaches =
    reaches-follows lists c nonzero clause (Reaches-more lists [] (negations c) (λ k e. absurd (false≢true e)) reaches)

-- an empty clause that is reached from clauses is reached from more
reaches_pushed : (cs ds : List (List ℤ)) (made : List ℤ) → Reaches cs made → Reaches (cs ++ ds) made
reaches_pushed cs ds made (conflict c at falses) = conflict c (found_before cs ds c at) falses
reaches_pushed cs ds made (unit c l at falses rest) = unit c l (found_before cs ds c at) falses (reaches_pushed cs ds (l ∷ made) rest)

still_refuted : (lists : List (List ℤ)) (c : List ℤ) (refuted : Bool) → IsRefutedOf lists refuted → IsRefutedOf (lists ++ c ∷ []) refuted
still_refuted lists c true reaches = reaches_pushed lists (c ∷ []) [] reaches
still_refuted lists c false nothing = nothing

pub known_plain : (lists more : List (List ℤ)) (c : List ℤ) (search rest : Option Propagator) (refuted : Bool) → more ≡ lists ++ c ∷ [] → rest ≡ None
    → is_clause c ≡ true →
    IsKnown lists search refuted → IsKnown more rest refuted
known_plain lists more c search rest refuted pushed none clause h =
    record {
      nonzero = nonzero_pushed lists more c pushed h.nonzero clause;
      search_is = subst (IsSearchOf more) (sym none) tt;
      refuted_is = subst (λ xs. IsRefutedOf xs refuted) (sym pushed) (still_refuted lists c refuted h.refuted_is);
    }

pub known_searched : (lists more : List (List ℤ)) (c : List ℤ) (search : Option Propagator) (new : Propagator) (refuted : Bool) → more ≡ lists ++ c
    ∷ [] → is_clause c ≡ true →
    new.clauses ≡ lists ++ c ∷ [] → IsAtRest new → IsKnown lists search refuted → IsKnown more (Some new) refuted
known_searched lists more c search new refuted pushed clause clauses rest h =
    record {
      nonzero = nonzero_pushed lists more c pushed h.nonzero clause;
      search_is = (clauses ∙ sym pushed, rest);
      refuted_is = subst (λ xs. IsRefutedOf xs refuted) (sym pushed) (still_refuted lists c refuted h.refuted_is);
    }

pub known_refuted : (lists more : List (List ℤ)) (c : List ℤ) (search rest : Option Propagator) (refuted : Bool) → more ≡ lists ++ c ∷ []
    → rest ≡ None → is_clause c ≡ true →
    Reaches (lists ++ c ∷ []) [] → IsKnown lists search refuted → IsKnown more rest true
known_refuted lists more c search rest refuted pushed none clause reaches h =
    record {
      nonzero = nonzero_pushed lists more c pushed h.nonzero clause;
      search_is = subst (IsSearchOf more) (sym none) tt;
      refuted_is = subst (λ xs. Reaches xs []) (sym pushed) reaches;
    }

-- the propagator that is there
pub search_at : (lists : List (List ℤ)) (search taken : Option Propagator) (it : Propagator) (refuted : Bool) → taken ≡ search → taken ≡ Some it
    → IsKnown lists search refuted →
    (it.clauses ≡ lists) × IsAtRest it
search_at lists search taken it refuted is some h = subst (IsSearchOf lists) (sym is ∙ some) h.search_is
