-- Terms without variables.
use Rattle.std.specs.Prelude.{◌≡◌, ℕ, List, slice_get, Some, Contains}
use Rattle.vg_bits.specs.declared.word.Word.{Word}
use Rattle.vg_term.specs.Terms.{Term, constant_at, listed}
use Rattle.vg_term.specs.Value.{value_of, Assigns}
use Rattle.vg_term.specs.declared.node.TermId.{TermId}
use Rattle.vg_term.specs.declared.node.Op.{Op}
use Rattle.vg_term.specs.declared.node.Parts.{Parts}
use Rattle.vg_term.specs.declared.node.Node.TheVariants as nodes

-- no variable stands under the term
pub data IsClosed (terms : List Term) : TermId → Type 0 where
  operation : (id : TermId) (op : Op) (parts : Parts) → (w : ℕ) → slice_get terms id.0 ≡ Some (nodes.Op op parts, w)
      → ((part : TermId) → Contains (listed parts) part → IsClosed terms part) → IsClosed terms id

-- the other term is the constant of the value that this one has under every assignment
pub record IsConstantOf (terms : List Term) (id other : TermId) : Type 0 where
  pub word : Word
  pub constant : constant_at terms other ≡ Some word
  pub value : (words : List Word) → Assigns words terms → value_of terms words id ≡ word.value
