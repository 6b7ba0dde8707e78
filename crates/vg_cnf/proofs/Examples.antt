-- The definitions at the four clauses over two variables, by computation.
use Rattle.std.proofs.Common.{◌≡◌, List, [], ◌∷◌, Some, None, false, refl}
use Rattle.std.specs.Prelude.{ℤ, pos, negsuc}
use Rattle.vg_cnf.specs.Propagation.{propagated, follows}
use Rattle.vg_cnf.specs.Refutations.{first_unfollowed, IsRefutation}

-- (1 2) (1 -2) (-1 2) (-1 -2), which no values make true
four : List (List ℤ)
four = (pos 1 ∷ pos 2 ∷ []) ∷ (pos 1 ∷ negsuc 1 ∷ []) ∷ (negsuc 0 ∷ pos 2 ∷ []) ∷ (negsuc 0 ∷ negsuc 1 ∷ []) ∷ []

nothing_to_propagate : propagated four ≡ Some []
unfolding four
nothing_to_propagate = refl

first_alone : first_unfollowed four ((pos 1 ∷ []) ∷ []) ≡ None
unfolding four
first_alone = refl

empty_alone : first_unfollowed four ([] ∷ []) ≡ Some 1
unfolding four
empty_alone = refl

refuted : IsRefutation four ((pos 1 ∷ []) ∷ [] ∷ [])
unfolding four
refuted = record { each_follows = refl; ends = refl }

-- three of them are true where both variables are
propagated_both : propagated ((pos 1 ∷ []) ∷ (negsuc 0 ∷ pos 2 ∷ pos 2 ∷ []) ∷ []) ≡ Some (pos 1 ∷ pos 2 ∷ [])
propagated_both = refl

-- a list with a literal and its negation follows from nothing, not even from the empty clause
no_clause : follows ([] ∷ []) (pos 1 ∷ negsuc 0 ∷ []) ≡ false
no_clause = refl
