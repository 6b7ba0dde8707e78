-- What a clause that can be learned is. No public clause rests on this file.
use Rattle.std.specs.Prelude.{◌≡◌, ℕ, ◌<◌, ℤ, pos, neg_ℤ, true, false, List, ◌++◌, length, All, slice_index_or}
use Rattle.std.specs.Ordering.{int_eq}
use Rattle.vg_cnf.specs.Clauses.{holds, without, IsClauseOver}
use Rattle.vg_cnf.specs.Orders.{IsConsistent, Settled, negations}
use Rattle.vg_cnf.specs.Propagation.{follows}
use Rattle.vg_units.specs.Propagating.{AreWithin}
use Rattle.vg_units.specs.Searching.{Search, Assumes}

abbrev pub first_of : List ℤ → ℤ
first_of c = slice_index_or c 0 (pos 0)

-- with the literals of a clause false, unit propagation ends: literals settle the clauses
pub record LeavesOpen (clauses : List (List ℤ)) (c : List ℤ) : Type 0 where
  pub made : List ℤ
  pub consistent : IsConsistent made
  pub settled : All (Settled made) clauses
  pub falses : AreWithin (negations c) made

-- with all literals false but the first it ends too, and doesn't make the first true
pub record LeavesFirst (clauses : List (List ℤ)) (c : List ℤ) : Type 0 where
  pub made : List ℤ
  pub consistent : IsConsistent made
  pub settled : All (Settled made) clauses
  pub others : (k : ℤ) → holds c k ≡ true → int_eq k (first_of c) ≡ false → holds made (neg_ℤ k) ≡ true
  pub unmade : holds made (first_of c) ≡ false

-- a clause that follows, whose first literal the others don't force
pub record IsLearnable (v : ℕ) (clauses : List (List ℤ)) (c : List ℤ) : Type 0 where
  pub over : IsClauseOver v c
  pub some : 0 < length c
  pub follows_it : follows clauses c ≡ true
  pub first : LeavesFirst clauses c

-- and of which none can be left out
pub record IsLearned (v : ℕ) (clauses : List (List ℤ)) (c : List ℤ) : Type 0 where
  pub learnable : IsLearnable v clauses c
  pub needed : (k : ℤ) → holds c k ≡ true → int_eq k (first_of c) ≡ false → LeavesOpen clauses (without k c)

-- ---- parts of a clause

-- with some literals a few more make a clause that follows, and of these few none can be left out
pub record IsReduced (clauses : List (List ℤ)) (some few : List ℤ) : Type 0 where
  pub follows_it : follows clauses (some ++ few) ≡ true
  pub needed : (k : ℤ) → holds few k ≡ true → LeavesOpen clauses (some ++ without k few)

-- where what is assumed, others and a list are a clause that follows, a few literals can stand for the list, and none of them can be left out
abbrev pub AreNeededBeside : Search → List ℤ → List ℤ → List ℤ → Type 0
AreNeededBeside s others list few =
    (assumed : List ℤ) → Assumes s assumed → IsClauseOver s.variables ((assumed ++ others) ++ list) → follows s.clauses ((assumed ++ others) ++ list) ≡ true →
    IsReduced s.clauses (assumed ++ others) few

-- the same with no others
abbrev pub AreNeeded : Search → List ℤ → List ℤ → Type 0
AreNeeded s list few =
    (assumed : List ℤ) → Assumes s assumed → IsClauseOver s.variables (assumed ++ list) → follows s.clauses (assumed ++ list) ≡ true
    → IsReduced s.clauses assumed few
