-- What is asked before something is done: a list of reasons, each with whether all is well. The first that isn't is told.
use Rattle.std.specs.Prelude.{◌≡◌, Bool, true, List, [], ◌∷◌, Option, Some, None, Result, Ok, Err, if◌then◌else◌}
use Rattle.vg_core.specs.declared.reason.Reason.{Reason}

pub record Test : Type 0 where
  pub reason : Reason
  pub holds : Bool

abbrev pub test : Reason → Bool → Test
test reason holds = record { reason = reason; holds = holds }

-- the first reason against it
abbrev pub first_against : List Test → Option Reason
first_against [] = None
first_against (t ∷ ts) = if t.holds then first_against ts else Some t.reason

abbrev pub unless : {A : Type 0} → Option Reason → A → Result A Reason
unless None done = Ok done
unless (Some reason) done = Err reason

-- what comes of it, where nothing is against it
abbrev pub tested : {A : Type 0} → List Test → A → Result A Reason
tested tests done = unless (first_against tests) done

-- ---- the same, test by test

abbrev pub AllHold : List Test → Type 0
AllHold [] = Unit {0}
AllHold (t ∷ ts) = (t.holds ≡ true) × AllHold ts

abbrev pub NothingAgainst : Type 0
NothingAgainst = (tests : List Test) → (first_against tests ≡ None → AllHold tests) × (AllHold tests → first_against tests ≡ None)
