-- Marks on terms that are followed down from some. No public clause rests on this file.
use Rattle.std.specs.Prelude.{◌≡◌, ℕ, ◌<◌, Bool, true, false, if◌then◌else◌, nat_eq, List, [], ◌∷◌, length, slice_get, slice_set, slice_index_or}
use Rattle.std.specs.Prelude.{Option, Some, All, Contains}
use Rattle.vg_term.specs.Terms.{Term, listed}
use Rattle.vg_term.specs.declared.node.TermId.{TermId}
use Rattle.vg_term.specs.declared.node.Op.TheVariants as ops
use Rattle.vg_term.specs.declared.node.Node.TheVariants as nodes
use Rattle.vg_blast.specs.Cost.{parts_at}
use Rattle.vg_blast.specs.declared.marking.Follow.{Follow}
use Rattle.vg_blast.specs.declared.marking.Follow.TheVariants.{Parts, Conjuncts}

-- the parts of a conjunction
abbrev pub conjuncts_in : Option Term → List TermId
conjuncts_in (Some (nodes.Op ops.And parts, w)) = if nat_eq w 1 then listed parts else []
conjuncts_in _ = []

-- the terms that are followed from one
abbrev pub followed : Follow → List Term → TermId → List TermId
followed Parts terms id = parts_at terms id
followed Conjuncts terms id = conjuncts_in (slice_get terms id.0)

-- whether a term is marked
abbrev pub is_marked : List Bool → TermId → Bool
is_marked marks id = slice_index_or marks id.0 false

-- with marks on these terms too
abbrev pub marked : List Bool → List TermId → List Bool
marked marks [] = marks
marked marks (id ∷ ids) = marked (slice_set marks id.0 true) ids

-- a term that is followed down from some
pub data Follows (follow : Follow) (terms : List Term) (from : List TermId) : TermId → Type 0 where
  start : (id : TermId) → Contains from id → Follows follow terms from id
  down : (id part : TermId) → Follows follow terms from id → Contains (followed follow terms id) part → Follows follow terms from part

-- marks on some terms alone
pub record AreStarts (terms : List Term) (from : List TermId) (marks : List Bool) : Type 0 where
  pub long : length marks ≡ length terms
  pub starts : All (λ id. is_marked marks id ≡ true) from
  pub sound : (id : TermId) → is_marked marks id ≡ true → Contains from id

-- marks where the terms from `high` on have been followed
pub record AreMarks (follow : Follow) (terms : List Term) (from : List TermId) (high : ℕ) (marks : List Bool) : Type 0 where
  pub long : length marks ≡ length terms
  pub starts : All (λ id. is_marked marks id ≡ true) from
  pub closed : (id : TermId) → (id.0 < high → ⊥) → is_marked marks id ≡ true → All (λ part. is_marked marks part ≡ true) (followed follow terms id)
  pub sound : (id : TermId) → is_marked marks id ≡ true → Follows follow terms from id
