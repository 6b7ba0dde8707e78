-- Words that are read off truth values. No public clause rests on this file.
use Rattle.std.specs.Prelude.{◌≡◌, ℕ, ◌<◌, Bool, List, take, length, slice_get, slice_index_or, Some}
use Rattle.std.specs.Int.{bit_at}
use Rattle.vg_bits.specs.Words.{bit}
use Rattle.vg_bits.specs.declared.word.Word.{Word}
use Rattle.vg_term.specs.Terms.{Term, variable_count}
use Rattle.vg_term.specs.Value.{value_of, HasItsWord, Assigns}
use Rattle.vg_term.specs.declared.node.TermId.{TermId}
use Rattle.vg_blast.specs.Blasting.{BitName, IsVariable, Agrees}

-- a zero for each variable among the first n terms
pub record AreZeros (terms : List Term) (n : ℕ) (words : List Word) : Type 0 where
  pub count : length words ≡ variable_count (take n terms)
  pub each : (at : ℕ) (t : Term) → at < n → slice_get terms at ≡ Some t → HasItsWord words t
  pub zero_each : (i : ℕ) (w : Word) → slice_get words i ≡ Some w → w.value ≡ 0

-- a bit of a variable
abbrev pub bit_of_term : List Term → List Word → TermId → ℕ → ℕ
bit_of_term terms words id at = bit_at (value_of terms words id) at

-- a bit that was 0 has this truth, and each other bit of a variable is as it was
pub record SetsBit (terms : List Term) (old new : List Word) (id : TermId) (at : ℕ) (holds : Bool) : Type 0 where
  pub assigns : Assigns new terms
  pub same : bit_of_term terms old id at ≡ 0 → bit_of_term terms new id at ≡ bit holds
  pub others : (x : TermId) (i : ℕ) → IsVariable terms x → ((x ≡ id) × (i ≡ at) → ⊥) → bit_of_term terms new x i ≡ bit_of_term terms old x i

-- the first k named bits have their truth, and the others are 0
pub record AreFilled (values : List Bool) (terms : List Term) (words : List Word) (names : List BitName) (k : ℕ) : Type 0 where
  pub assigns : Assigns words terms
  pub done : (j : ℕ) (d : BitName) → j < k → j < length names → Agrees values terms words (slice_index_or names j d)
  pub left : (j : ℕ) (d : BitName) → (j < k → ⊥) → j < length names → bit_of_term terms words (slice_index_or names j d).0 (slice_index_or names j d).1 ≡ 0
