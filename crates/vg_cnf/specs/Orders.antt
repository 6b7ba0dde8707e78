-- Unit propagation in any order: what a program shows that makes units true one by one, in an order of its own.
use Rattle.std.specs.Prelude.{◌≡◌, ℤ, neg_ℤ, Bool, true, false, List, ◌∷◌, map, Contains}
use Rattle.std.specs.List.{list_any}
use Rattle.std.specs.Ordering.{int_eq}
use Rattle.vg_cnf.specs.Clauses.{holds}

-- no literal is made true along with its negation
abbrev pub IsConsistent : List ℤ → Type 0
IsConsistent made = (l : ℤ) → holds made l ≡ true → holds made (neg_ℤ l) ≡ false

-- a literal of the clause is true, or two different ones are not false: it is neither empty nor a unit
pub data Settled (made c : List ℤ) : Type 0 where
  by_true : (l : ℤ) → holds c l ≡ true → holds made l ≡ true → Settled made c
  by_two : (k l : ℤ) → holds c k ≡ true → holds c l ≡ true → int_eq k l ≡ false → holds made (neg_ℤ k) ≡ false → holds made (neg_ℤ l) ≡ false → Settled made c

-- an empty clause is reached from literals made true so far: a clause is false, or all its literals but one are and that one is made true too
pub data Reaches (clauses : List (List ℤ)) : List ℤ → Type 0 where
  conflict : {made : List ℤ} (c : List ℤ) → Contains clauses c → ((k : ℤ) → holds c k ≡ true → holds made (neg_ℤ k) ≡ true) → Reaches clauses made
  unit : {made : List ℤ} (c : List ℤ) (l : ℤ) → Contains clauses c → ((k : ℤ) → holds c k ≡ true → int_eq k l ≡ false → holds made (neg_ℤ k) ≡ true) →
      Reaches clauses (l ∷ made) → Reaches clauses made

-- whether one of the clauses holds this literal
abbrev pub occurs : List (List ℤ) → ℤ → Bool
occurs clauses l = list_any (λ c. holds c l) clauses

-- the negations of a clause's literals
abbrev pub negations : List ℤ → List ℤ
negations c = map neg_ℤ c
