-- A disjunction as the list of its parts. No public clause rests on this file.
use Rattle.std.specs.Prelude.{◌≡◌, ℕ, ◌<◌, ◌≤◌, Bool, true, false, not, if◌then◌else◌, nat_eq, List, [], ◌∷◌, ◌++◌, length, slice_get, slice_set}
use Rattle.std.specs.Prelude.{slice_index_or, Option, Some, None, All}
use Rattle.vg_term.specs.Terms.{Term}
use Rattle.vg_term.specs.declared.node.TermId.{TermId}
use Rattle.vg_term.specs.declared.node.Op.TheVariants as ops
use Rattle.vg_term.specs.declared.node.Parts.TheVariants as parts
use Rattle.vg_term.specs.declared.node.Node.TheVariants as nodes
use Rattle.vg_blast.specs.declared.disjuncts.Part.{Part}

-- a term, or its negation: where it is a `not`, the term under that with the other sign
abbrev pub part_in : Bool → TermId → Option Term → Part
part_in negated id (Some (nodes.Op ops.Not (parts.One a), w)) = record { term = a; negated = not negated }
part_in negated id _ = record { term = id; negated = negated }

abbrev pub part_of : List Term → Bool → TermId → Part
part_of terms negated id = part_in negated id (slice_get terms id.0)

-- the two terms of a disjunction: an `or` of width 1, and under a negation an `and`, whose terms are to be negated too
abbrev pub sides_in : Bool → Option Term → Option (TermId × TermId)
sides_in false (Some (nodes.Op ops.Or (parts.Two a b), w)) = if nat_eq w 1 then Some (a, b) else None
sides_in true (Some (nodes.Op ops.And (parts.Two a b), w)) = if nat_eq w 1 then Some (a, b) else None
sides_in _ _ = None

abbrev pub sides_of : List Term → Part → Option (TermId × TermId)
sides_of terms part = sides_in part.negated (slice_get terms part.term.0)

-- the term alone, and each list that has the two parts of a disjunction in its place
pub data SplitsInto (terms : List Term) (id : TermId) : List Part → Type 0 where
  alone : SplitsInto terms id (part_of terms false id ∷ [])
  apart : (list : List Part) (at : ℕ) (x : Part) (a b : TermId) → SplitsInto terms id list → at < length list → slice_index_or list at x ≡ x
      → sides_of terms x ≡ Some (a, b) →
      SplitsInto terms id (slice_set list at (part_of terms x.negated a) ++ part_of terms x.negated b ∷ [])

-- the parts of a term as a disjunction: none is a disjunction itself, unless there are as many as there may be
pub record AreDisjuncts (terms : List Term) (id : TermId) (list : List Part) : Type 0 where
  pub split : SplitsInto terms id list
  pub most : length list ≤ 128
  pub whole : length list < 128 → All (λ part. sides_of terms part ≡ None) list
