-- What a checker keeps of the clauses that it knows. No public clause rests on this file.
use Rattle.std.specs.Prelude.{◌≡◌, ℤ, pos, Bool, true, false, Option, Some, None, List, []}
use Rattle.vg_cnf.specs.Orders.{occurs, Reaches}
use Rattle.vg_units.specs.Searching.{IsAtRest}
use Rattle.vg_units.specs.declared.propagator.Propagator.{Propagator}

-- a propagator, where there is one, has the same clauses
abbrev pub IsSearchOf : List (List ℤ) → Option Propagator → Type 0
IsSearchOf lists None = Unit {0}
IsSearchOf lists (Some search) = (search.clauses ≡ lists) × IsAtRest search

-- it was found that the empty clause follows
abbrev pub IsRefutedOf : List (List ℤ) → Bool → Type 0
IsRefutedOf lists true = Reaches lists []
IsRefutedOf lists false = Unit {0}

pub record IsKnown (lists : List (List ℤ)) (search : Option Propagator) (refuted : Bool) : Type 0 where
  pub nonzero : occurs lists (pos 0) ≡ false
  pub search_is : IsSearchOf lists search
  pub refuted_is : IsRefutedOf lists refuted
