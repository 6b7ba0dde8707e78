-- Equality piece by piece: a conjunction that says that the low bits of two terms are equal.
use Rattle.std.specs.Prelude.{◌≡◌, ℕ, ◌%◌, ◌^◌, List, bit_and, Result, IfOk}
use Rattle.vg_bits.specs.Words.{eq}
use Rattle.vg_bits.specs.declared.word.Word.{Word}
use Rattle.vg_term.specs.Terms.{Term, Stands, width_at}
use Rattle.vg_term.specs.Value.{value_of, Assigns}
use Rattle.vg_term.specs.Wiring.{Grown}
use Rattle.vg_term.specs.declared.node.TermId.{TermId}
use Rattle.vg_term.specs.declared.stops.TermStop.{TermStop}

-- the term of width 1 says that the lowest bits of two others, so many, are equal
pub record IsLowEqual (terms : List Term) (id a b : TermId) (count : ℕ) : Type 0 where
  pub stands : Stands terms id
  pub width : width_at terms id ≡ 1
  pub value : (words : List Word) → Assigns words terms → value_of terms words id ≡ eq (value_of terms words a % 2 ^ count) (value_of terms words b % 2 ^ count)

-- a fact and the equality of two terms were joined
pub record IsBoth (terms : List Term) (id fact a b : TermId) : Type 0 where
  pub stands : Stands terms id
  pub width : width_at terms id ≡ 1
  pub value : (words : List Word) → Assigns words terms → value_of terms words id ≡ bit_and (value_of terms words fact)
      (eq (value_of terms words a) (value_of terms words b))

pub record JoinsEqual (old new : List Term) (fact a b : TermId) (result : Result TermId TermStop) : Type 0 where
  pub grown : Grown old new
  pub both : IfOk result (λ id. IsBoth new id fact a b)
