-- Terms beside what they were replaced by. No public clause rests on this file.
use Rattle.std.specs.Prelude.{◌≡◌, ℕ, ◌<◌, Bool, true, List, map, length, slice_get, slice_index_or, Some, Result, IfOk, All}
use Rattle.vg_term.specs.Terms.{Term}
use Rattle.vg_term.specs.Wiring.{Grown}
use Rattle.vg_term.specs.declared.node.TermId.{TermId}
use Rattle.vg_term.specs.declared.node.Op.{Op}
use Rattle.vg_term.specs.declared.node.Parts.{Parts}
use Rattle.vg_term.specs.declared.node.Node.TheVariants as nodes
use Rattle.vg_term.specs.declared.stops.TermStop.{TermStop}
use Rattle.vg_simp.specs.Sameness.{IsSame}
use Rattle.vg_simp.specs.Closed.{IsClosed, IsConstantOf}
use Rattle.vg_simp.specs.Marking.{is_marked, parts_at}

-- the entry at a term's number
abbrev pub entry_at : List TermId → TermId → TermId
entry_at others id = slice_index_or others id.0 (record { 0 = 0 })

-- each entry is the same as the term whose number is its place
pub record AreSame (terms : List Term) (facts others : List TermId) : Type 0 where
  pub each : (id : TermId) → id.0 < length others → IsSame terms facts id (entry_at others id)

-- the entries for some terms
abbrev pub replaced : List TermId → List TermId → List TermId
replaced others parts = map (entry_at others) parts

-- terms were added, and one that is the same as this one is answered
pub record Simplifies (old new : List Term) (facts : List TermId) (id : TermId) (result : Result TermId TermStop) : Type 0 where
  pub grown : Grown old new
  pub same : IfOk result (λ other. IsSame new facts id other)

-- the term is an operation
abbrev pub IsOperation : List Term → TermId → Type 0
IsOperation terms id = (op : Op) × (parts : Parts) × (w : ℕ) × (slice_get terms id.0 ≡ Some (nodes.Op op parts, w))

-- where the entries for an operation's parts are the constants of what these are, the answer is the constant of what the operation is
pub record KeepsConstant (old new : List Term) (others : List TermId) (id : TermId) (result : Result TermId TermStop) : Type 0 where
  pub constant : IsOperation old id → All (λ part. IsConstantOf old part (entry_at others part)) (parts_at old id)
      → IfOk result (λ other. IsConstantOf new id other)

-- the entries for marked terms without variables are the constants of what these are
pub record AreConstants (first terms : List Term) (marks : List Bool) (others : List TermId) : Type 0 where
  pub each : (id : TermId) → id.0 < length others → is_marked marks id ≡ true → IsClosed first id → IsConstantOf terms id (entry_at others id)

-- for a term without variables the constant of what it is is answered
pub record KeepsClosed (old new : List Term) (id : TermId) (result : Result TermId TermStop) : Type 0 where
  pub constant : IsClosed old id → IfOk result (λ other. IsConstantOf new id other)
