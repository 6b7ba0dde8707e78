-- A search: clauses, the literals that are true, and where the decisions among these stand.
use Rattle.std.specs.Prelude.{◌≡◌, ℕ, ◌<◌, ℤ, pos, Bool, true, List, [], ◌∷◌, ◌++◌, length, take, slice_index_or, All, ◌⊎◌, Option, Some, None}
use Rattle.vg_cnf.specs.Clauses.{holds, IsClauseOver}
use Rattle.vg_cnf.specs.Orders.{IsConsistent, Settled, negations}
use Rattle.vg_cnf.specs.Propagation.{follows}
use Rattle.vg_units.specs.Lists.{IsListedFrom}
use Rattle.vg_units.specs.Propagating.{AreFalse, IsForced, AreWithin}

-- the clauses over the variables up to a number, the literals that are true in the order in which they were made so, the places of the decisions among them,
-- and how many of them have been propagated
pub record Search : Type 0 where
  pub variables : ℕ
  pub clauses : List (List ℤ)
  pub trail : List ℤ
  pub starts : List ℕ
  pub head : ℕ

-- no decision stands, and all is propagated
abbrev pub IsAtRest : Search → Type 0
IsAtRest s = (s.starts ≡ []) × (s.head ≡ length s.trail)

-- each literal of the trail was decided or is forced by those before it
abbrev pub IsChain : List (List ℤ) → List ℤ → List ℕ → Type 0
IsChain clauses trail starts = (at : ℕ) → at < length trail → IsListedFrom starts 0 at ⊎ IsForced clauses (take at trail) (slice_index_or trail at (pos 0))

-- what is true is no contradiction, and comes from the decisions
pub record IsSound (s : Search) : Type 0 where
  pub consistent : IsConsistent s.trail
  pub chain : IsChain s.clauses s.trail s.starts

-- the literals that are true settle the clauses, and those of a list are false
pub record Rests (s : Search) (list : List ℤ) : Type 0 where
  pub consistent : IsConsistent s.trail
  pub settled : All (Settled s.trail) s.clauses
  pub falses : AreWithin (negations list) s.trail

-- the clauses and the decisions stay
abbrev pub IsSameBut : Search → Search → Type 0
IsSameBut old new = (new.variables ≡ old.variables) × (new.clauses ≡ old.clauses) × (new.starts ≡ old.starts)

-- propagation ended with all clauses settled, or at a false one
abbrev pub IsEnd : Search → Search → Option ℕ → Type 0
IsEnd old new None = (new.head ≡ length new.trail) × All (Settled new.trail) new.clauses
IsEnd old new (Some clause) = (new.head ≡ old.head) × (clause < length new.clauses) × AreFalse new.trail (slice_index_or new.clauses clause [])

-- ---- literals assumed false

-- what is assumed are the literals of a list: each is false, and each decision is the negation of one
pub record Assumes (s : Search) (list : List ℤ) : Type 0 where
  pub falses : AreWithin (negations list) s.trail
  pub decided : (at : ℕ) → IsListedFrom s.starts 0 at → (at < length s.trail) × (holds (negations list) (slice_index_or s.trail at (pos 0)) ≡ true)

-- a list is assumed beside what was
abbrev pub AssumesAlso : Search → Search → List ℤ → Type 0
AssumesAlso old new list = (assumed : List ℤ) → Assumes old assumed → Assumes new (assumed ++ list)

-- the answer is whether what is assumed makes, with a list, a clause that follows
abbrev pub TellsBeside : Search → List ℤ → Bool → Type 0
TellsBeside s list answer = (assumed : List ℤ) → Assumes s assumed → IsClauseOver s.variables (assumed ++ list) → answer ≡ follows s.clauses (assumed ++ list)

-- more was decided: what was true stands first, and behind it the first of the later decisions
pub record IsBeyond (before after : Search) : Type 0 where
  pub variables : after.variables ≡ before.variables
  pub clauses : after.clauses ≡ before.clauses
  pub made : List ℤ
  pub trail : after.trail ≡ before.trail ++ made
  pub later : List ℕ
  pub starts : after.starts ≡ before.starts ++ length before.trail ∷ later

-- nothing was done, or more was decided
abbrev pub IsFurther : Search → Search → Type 0
IsFurther before after = (after ≡ before) ⊎ IsBeyond before after

-- all is as it was when just the first decisions stood, and was propagated
abbrev pub IsReturned : ℕ → Search → Search → Type 0
IsReturned level old new = (before : Search) → length before.starts ≡ level → before.head ≡ length before.trail → IsFurther before old → new ≡ before
