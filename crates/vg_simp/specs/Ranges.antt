-- Ranges of numbers, and what operations make of them. No public clause rests on this file.
use Rattle.std.specs.Prelude.{◌≡◌, ◌≤◌, ◌<◌, ◌^◌, ℕ, Bool, List, Option, IfSome}
use Rattle.vg_bits.specs.Words.{bit}
use Rattle.vg_bits.specs.declared.word.Word.{Word}
use Rattle.vg_term.specs.Operations.{Bits, value_one, value_two}
use Rattle.vg_term.specs.Terms.{Term}
use Rattle.vg_term.specs.Value.{value_of, Assigns}
use Rattle.vg_term.specs.declared.node.TermId.{TermId}
use Rattle.vg_term.specs.declared.node.Op.{Op}
use Rattle.vg_simp.specs.Sameness.{AreTrue}
use Rattle.vg_simp.specs.declared.range.Range.{Range}

-- the number lies in the range
pub record IsIn (range : Range) (n : ℕ) : Type 0 where
  pub least : range.low ≤ n
  pub most : n ≤ range.high

-- whatever lies in both lies in the other
pub record IsMeet (x y result : Range) : Type 0 where
  pub each : (n : ℕ) → IsIn x n → IsIn y n → IsIn result n

-- the same, where there may be no second one
pub record IsMet (x : Range) (y : Option Range) (result : Range) : Type 0 where
  pub each : (n : ℕ) → IsIn x n → IfSome y (λ r. IsIn r n) → IsIn result n

-- whatever lies in either lies in the other
pub record IsHull (x y result : Range) : Type 0 where
  pub first : (n : ℕ) → IsIn x n → IsIn result n
  pub second : (n : ℕ) → IsIn y n → IsIn result n

-- every word of this width lies in the range
pub record IsWhole (width : ℕ) (range : Range) : Type 0 where
  pub each : (n : ℕ) → n < 2 ^ width → IsIn range n

-- what the function makes of numbers in the ranges lies in the other
pub record Covers (f : ℕ → ℕ → ℕ) (x y result : Range) : Type 0 where
  pub each : (m n : ℕ) → IsIn x m → IsIn y n → IsIn result (f m n)

-- a word of this width
abbrev pub word : ℕ → ℕ → Bits
word width value = record { width = width; value = value }

-- what the operation makes of words of this width in the range lies in the other
pub record CoversOne (op : Op) (width : ℕ) (x result : Range) : Type 0 where
  pub each : (n : ℕ) → IsIn x n → IsIn result (value_one op (word width n))

-- what the operation makes of words of this width in the ranges lies in the other
pub record CoversTwo (op : Op) (width : ℕ) (x y result : Range) : Type 0 where
  pub each : (m n : ℕ) → IsIn x m → IsIn y n → IsIn result (value_two op (word width m) (word width n))

-- the function says the same truth, as a bit, of all numbers in the ranges
pub record Decides (f : ℕ → ℕ → ℕ) (x y : Range) (holds : Bool) : Type 0 where
  pub each : (m n : ℕ) → IsIn x m → IsIn y n → f m n ≡ bit holds

-- wherever the facts are true, the term has this value
pub record IsFixed (terms : List Term) (facts : List TermId) (id : TermId) (value : ℕ) : Type 0 where
  pub each : (words : List Word) → Assigns words terms → AreTrue terms words facts → value_of terms words id ≡ value

-- wherever the facts are true, the value lies in the range
pub record IsWithin (terms : List Term) (facts : List TermId) (id : TermId) (range : Range) : Type 0 where
  pub value : (words : List Word) → Assigns words terms → AreTrue terms words facts → IsIn range (value_of terms words id)
