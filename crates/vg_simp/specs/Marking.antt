-- Marks on the terms that stand under one. No public clause rests on this file.
use Rattle.std.specs.Prelude.{◌≡◌, ℕ, ◌+◌, ◌<◌, Bool, true, false, List, [], ◌∷◌, length, slice_get, slice_set, slice_index_or, Option, Some, All}
use Rattle.vg_term.specs.Terms.{Term, listed}
use Rattle.vg_term.specs.declared.node.TermId.{TermId}
use Rattle.vg_term.specs.declared.node.Node.TheVariants as nodes

-- the parts of what stands at a place
abbrev pub parts_in : Option Term → List TermId
parts_in (Some (nodes.Op op parts, w)) = listed parts
parts_in _ = []

-- the parts of a term
abbrev pub parts_at : List Term → TermId → List TermId
parts_at terms id = parts_in (slice_get terms id.0)

-- whether a term is marked
abbrev pub is_marked : List Bool → TermId → Bool
is_marked marks id = slice_index_or marks id.0 false

-- with marks on these terms too
abbrev pub marked : List Bool → List TermId → List Bool
marked marks [] = marks
marked marks (id ∷ ids) = marked (slice_set marks id.0 true) ids

-- marks where those of the terms from `high` on were handed down to their parts
pub record AreMarks (terms : List Term) (goal : TermId) (high : ℕ) (marks : List Bool) : Type 0 where
  pub long : length marks ≡ goal.0 + 1
  pub start : is_marked marks goal ≡ true
  pub closed : (id : TermId) → (id.0 < high → ⊥) → is_marked marks id ≡ true → All (λ part. is_marked marks part ≡ true) (parts_at terms id)
