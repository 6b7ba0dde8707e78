-- What unit propagation does in a step, in a pass over the clauses, and in the end.
use Rattle.std.specs.Prelude.{◌≡◌, ℕ, ◌<◌, ℤ, neg_ℤ, Bool, true, false, not, List, All, count_by}
use Rattle.std.specs.List.{list_any}
use Rattle.std.specs.Ordering.{int_eq}
use Rattle.vg_cnf.specs.Clauses.{holds}
use Rattle.vg_cnf.specs.Orders.{Settled, IsConsistent, Reaches}
use Rattle.vg_rup.specs.declared.propagation.Forced.{Forced}
use Rattle.vg_rup.specs.declared.propagation.Forced.TheVariants.{Nothing, Literal, Conflict}
use Rattle.vg_rup.specs.declared.propagation.Pass.{Pass}
use Rattle.vg_rup.specs.declared.propagation.Pass.TheVariants as passes

-- ---- one clause

-- each literal of the clause is false
abbrev pub AreFalse : List ℤ → List ℤ → Type 0
AreFalse made c = (k : ℤ) → holds c k ≡ true → holds made (neg_ℤ k) ≡ true

-- each literal of the clause is false but this one, which is neither true nor false
pub record IsForced (made c : List ℤ) (l : ℤ) : Type 0 where
  pub held : holds c l ≡ true
  pub not_true : holds made l ≡ false
  pub not_false : holds made (neg_ℤ l) ≡ false
  pub others_false : (k : ℤ) → holds c k ≡ true → int_eq k l ≡ false → holds made (neg_ℤ k) ≡ true

-- what the clause forces
abbrev pub Forces : List ℤ → List ℤ → Forced → Type 0
Forces made c Nothing = Settled made c
Forces made c (Literal l) = IsForced made c l
Forces made c Conflict = AreFalse made c

-- ---- all clauses

-- how many clauses have no true literal
abbrev pub open_clauses : List ℤ → List (List ℤ) → ℕ
open_clauses made clauses = count_by (λ c. not (list_any (holds made) c)) clauses

-- literals that the clauses force were made true: an empty clause that is reached from there is reached from before
pub record Grows (clauses : List (List ℤ)) (old new : List ℤ) : Type 0 where
  pub keeps : (k : ℤ) → holds old k ≡ true → holds new k ≡ true
  pub consistent : IsConsistent new
  pub reaches : Reaches clauses new → Reaches clauses old

-- what a pass did
abbrev pub Passes : List (List ℤ) → List ℤ → List ℤ → Pass → Type 0
Passes clauses old new passes.Settled = Grows clauses old new × All (Settled new) clauses
Passes clauses old new passes.Grew = Grows clauses old new × (open_clauses new clauses < open_clauses old clauses)
Passes clauses old new passes.Conflict = Reaches clauses old

-- what propagation answers: that an empty clause is reached, or that each clause is settled
abbrev pub Propagates : List (List ℤ) → List ℤ → List ℤ → Bool → Type 0
Propagates clauses old new true = Reaches clauses old
Propagates clauses old new false = Grows clauses old new × All (Settled new) clauses
