-- Terms as a term and a constant. No public clause rests on this file.
use Rattle.std.specs.Prelude.{◌≡◌, ◌≤◌, ◌<◌, ◌^◌, ℕ, List, Result, IfOk}
use Rattle.vg_bits.specs.Words.{add}
use Rattle.vg_bits.specs.declared.word.Word.{Word}
use Rattle.vg_term.specs.Terms.{Term, Stands, width_at}
use Rattle.vg_term.specs.Value.{value_of, Assigns}
use Rattle.vg_term.specs.Wiring.{Grown}
use Rattle.vg_term.specs.declared.node.TermId.{TermId}
use Rattle.vg_term.specs.declared.stops.TermStop.{TermStop}
use Rattle.vg_simp.specs.Sameness.{AreTrue}
use Rattle.vg_simp.specs.Ranges.{IsIn}
use Rattle.vg_simp.specs.declared.range.Range.{Range}
use Rattle.vg_simp.specs.declared.summing.Sum.{Sum}

-- the term is the sum of another one of its width and a word
pub record IsSum (terms : List Term) (id : TermId) (sum : Sum) : Type 0 where
  pub stands : Stands terms sum.base
  pub width : width_at terms sum.base ≡ width_at terms id
  pub word_width : sum.word.width ≡ width_at terms id
  pub value : (words : List Word) → Assigns words terms → value_of terms words id ≡ add sum.word.width (value_of terms words sum.base) sum.word.value

-- wherever the facts are true, the term is the sum of a word of its width and another term that is no wider
pub record IsWideSum (terms : List Term) (facts : List TermId) (id : TermId) (sum : Sum) : Type 0 where
  pub stands : Stands terms sum.base
  pub width : width_at terms sum.base ≤ sum.word.width
  pub word_width : sum.word.width ≡ width_at terms id
  pub value : (words : List Word) → Assigns words terms → AreTrue terms words facts → value_of terms words id ≡ add sum.word.width
      (value_of terms words sum.base) sum.word.value

-- the sums of the narrow word and numbers in the range are those of the wide one
pub record IsWidened (range : Range) (narrow wide : Word) : Type 0 where
  pub each : (n : ℕ) → n < 2 ^ narrow.width → IsIn range n → add narrow.width n narrow.value ≡ add wide.width n wide.value

-- the term is as wide as the word, and is the sum
pub record IsSumOf (terms : List Term) (id : TermId) (sum : Sum) : Type 0 where
  pub stands : Stands terms id
  pub width : width_at terms id ≡ sum.word.width
  pub value : (words : List Word) → Assigns words terms → value_of terms words id ≡ add sum.word.width (value_of terms words sum.base) sum.word.value

-- terms were added, and the sum is answered
pub record BuildsSum (old new : List Term) (sum : Sum) (result : Result TermId TermStop) : Type 0 where
  pub grown : Grown old new
  pub is_sum : IfOk result (λ id. IsSumOf new id sum)

-- the two sums are the same under every assignment
pub record IsSumAs (terms : List Term) (sum other : Sum) : Type 0 where
  pub stands : Stands terms other.base
  pub width : width_at terms other.base ≡ other.word.width
  pub word_width : other.word.width ≡ sum.word.width
  pub value : (words : List Word) → Assigns words terms → add sum.word.width (value_of terms words sum.base) sum.word.value ≡ add other.word.width
      (value_of terms words other.base) other.word.value
