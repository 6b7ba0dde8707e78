-- What is known under facts. No public clause rests on this file.
use Rattle.std.specs.Prelude.{◌≡◌, ◌≤◌, ◌+◌, ℕ, List, All, Result, OnOk}
use Rattle.vg_bits.specs.Words.{bit}
use Rattle.vg_bits.specs.declared.word.Word.{Word}
use Rattle.vg_term.specs.Terms.{Term, Stands, width_at}
use Rattle.vg_term.specs.Value.{value_of, Assigns}
use Rattle.vg_term.specs.Wiring.{Grown}
use Rattle.vg_term.specs.declared.node.TermId.{TermId}
use Rattle.vg_term.specs.declared.stops.TermStop.{TermStop}
use Rattle.vg_simp.specs.Sameness.{AreTrue, IsSame}
use Rattle.vg_simp.specs.Ranges.{IsWithin}
use Rattle.vg_simp.specs.declared.knowledge.Knowledge.{Knowledge}
use Rattle.vg_simp.specs.declared.knowledge.Replacement.{Replacement}
use Rattle.vg_simp.specs.declared.knowledge.Literal.{Literal}
use Rattle.vg_simp.specs.declared.knowledge.Bound.{Bound}
use Rattle.vg_simp.specs.declared.knowledge.Gap.{Gap}

-- a term and one that is the same
pub record Replaces (terms : List Term) (facts : List TermId) (replacement : Replacement) : Type 0 where
  pub stands : Stands terms replacement.term
  pub same : IsSame terms facts replacement.term replacement.other

-- a term and a range that its value keeps to
pub record Bounds (terms : List Term) (facts : List TermId) (bound : Bound) : Type 0 where
  pub stands : Stands terms bound.term
  pub within : IsWithin terms facts bound.term bound.range

-- wherever the facts are true, the one value and so much are at most the other value
pub record IsApart (terms : List Term) (facts : List TermId) (low : TermId) (by : ℕ) (high : TermId) : Type 0 where
  pub each : (words : List Word) → Assigns words terms → AreTrue terms words facts → value_of terms words low + by ≤ value_of terms words high

-- wherever the facts are true, the two values differ
pub record IsOther (terms : List Term) (facts : List TermId) (a b : TermId) : Type 0 where
  pub each : (words : List Word) → Assigns words terms → AreTrue terms words facts → value_of terms words a ≡ value_of terms words b → ⊥

-- the term says the truth, as it is told, wherever the facts are true
pub record IsTold (terms : List Term) (facts : List TermId) (literal : Literal) : Type 0 where
  pub stands : Stands terms literal.term
  pub width : width_at terms literal.term ≡ 1
  pub value : (words : List Word) → Assigns words terms → AreTrue terms words facts → value_of terms words literal.term ≡ bit literal.holds

-- wherever the facts are true, the two terms lie so far apart
pub record IsGap (terms : List Term) (facts : List TermId) (gap : Gap) : Type 0 where
  pub low : Stands terms gap.low
  pub high : Stands terms gap.high
  pub each : (words : List Word) → Assigns words terms → AreTrue terms words facts → value_of terms words gap.low + gap.up ≤ value_of terms words
      gap.high + gap.down

-- all that is kept follows from the facts
pub record IsKnown (terms : List Term) (knowledge : Knowledge) : Type 0 where
  pub facts : All (Stands terms) knowledge.facts.items
  pub same : All (Replaces terms knowledge.facts.items) knowledge.same.items
  pub bounds : All (Bounds terms knowledge.facts.items) knowledge.bounds.items
  pub gaps : All (IsGap terms knowledge.facts.items) knowledge.gaps.items

-- knowledge grew, under the same facts
pub record Learns (old new : List Term) (before after : Knowledge) (result : Result Unit TermStop) : Type 0 where
  pub grown : Grown old new
  pub facts : OnOk result (after.facts.items ≡ before.facts.items)
  pub known : OnOk result (IsKnown new after)
