-- Terms as others moved up or down. No public clause rests on this file.
use Rattle.std.specs.Prelude.{◌≡◌, ◌≤◌, ◌+◌, ℕ, List}
use Rattle.vg_bits.specs.declared.word.Word.{Word}
use Rattle.vg_term.specs.Terms.{Term, Stands}
use Rattle.vg_term.specs.Value.{value_of, Assigns}
use Rattle.vg_term.specs.declared.node.TermId.{TermId}
use Rattle.vg_simp.specs.Sameness.{AreTrue}
use Rattle.vg_simp.specs.declared.knowledge.Gap.{Gap}
use Rattle.vg_simp.specs.declared.placing.Place.{Place}

-- wherever the facts are true, the term has the value of the place, as a whole number
pub record IsPlace (terms : List Term) (facts : List TermId) (id : TermId) (place : Place) : Type 0 where
  pub stands : Stands terms place.base
  pub each : (words : List Word) → Assigns words terms → AreTrue terms words facts → value_of terms words id + place.minus ≡ value_of terms words
      place.base + place.plus

-- the gap is on the bases of the two places, and wide enough for the one and so much to be at most the other
pub record IsSpan (gap : Gap) (low : Place) (by : ℕ) (high : Place) : Type 0 where
  pub from : gap.low ≡ low.base
  pub to : gap.high ≡ high.base
  pub enough : low.plus + by + high.minus + gap.down ≤ gap.up + high.plus + low.minus
