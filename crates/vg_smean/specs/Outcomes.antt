-- What a step's result says.
use Rattle.std.specs.Prelude.{ℕ, ◌≡◌, ◌≢◌, ◌≤◌, List, true}
use Rattle.std.specs.declared.result.Result.{Result}
use Rattle.std.specs.declared.result.Result.TheVariants.{Ok, Err}
use Rattle.vg_core.specs.declared.verdict.Verdict.{Verdict}
use Rattle.vg_stree.specs.Specification.{Specification}
use Rattle.vg_abs.specs.State.{State}
use Rattle.vg_abs.specs.Lawful.{IsLawful}
use Rattle.vg_smean.specs.declared.stops.SpecStop.{SpecStop}
use Rattle.vg_smean.specs.declared.stops.SpecStop.TheVariants as refusals
use Rattle.vg_smean.specs.Step.{StepEnd, Done, ChoiceRefused, AsksMore, step}

-- a result, and the state and the frame that it leaves, are what a step comes to; memory may always be wanting
abbrev pub StepsTo : Result Verdict SpecStop → State → List ℕ → StepEnd → Type 0
StepsTo (Ok verdict) s frame end = end ≡ Done verdict s frame
StepsTo (Err refusals.Choice) s frame end = end ≡ ChoiceRefused
StepsTo (Err refusals.Memory) s frame end = Unit {0}

-- a state is lawful at a time that isn't after now
pub record IsLawfulBy (spec : Specification) (numbers : List ℕ) (now : ℕ) (s : State) : Type 0 where
  pub at : ℕ
  pub early : at ≤ now
  pub lawful : IsLawful spec numbers at s

-- a lawful full state tells all that a step asks
abbrev pub LawfulTellsAll : Type 0
LawfulTellsAll = (spec : Specification) (numbers : List ℕ) (at : ℕ) (s : State) (port : ℕ) (frame : List ℕ) (now : ℕ) (choices : List ℕ)
    → IsLawful spec numbers at s → s.full ≡ true → step spec numbers s port frame now choices ≢ AsksMore
