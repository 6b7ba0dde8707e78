-- What typing counts of a well typed text bounds its runs: a node takes at most its steps, and a loop at most its turns, from any state on.
use Rattle.std.specs.Prelude.{◌≡◌, ℕ, ◌+◌, ◌≤◌, ◌<◌, List, length, slice_get, nat_eq, Bool, true, false, ◌&&◌, is_some, Option, Some, None}
use Rattle.vg_core.specs.Units.{Typed}
use Rattle.vg_core.specs.declared.tree.Name.{Name}
use Rattle.vg_core.specs.declared.tree.IntType.{IntType}
use Rattle.vg_core.specs.declared.tree.Kind.{Kind}
use Rattle.vg_core.specs.declared.tree.Kind.TheVariants as nodes
use Rattle.vg_cmemory.specs.State.{State, declare}
use Rattle.vg_cmean.specs.Outcomes.{Outcome, Next, Gives, Wrong, Untold, on_own}
use Rattle.vg_cmean.specs.Typings.{kind_at}
use Rattle.vg_cmean.specs.Meaning.{meaning, meaning_below, loop_of, turns, first_of, constant, step_of}
use Rattle.vg_cmean.specs.Runs.{process_of, run}
use Rattle.vg_ctyper.specs.Names.{Known}
use Rattle.vg_ctyper.specs.Notes.{steps_of, or_zero}
use Rattle.vg_ctyper.specs.StatementRules.{step_number}
use Rattle.vg_ctyper.specs.StatementRules as rules
use Rattle.vg_ctyper.specs.WellTyped.{IsWellTyped, known_at}

-- ---- loops that typing could count

-- what typing knows at a node
abbrev pub known : Typed → ℕ → Known
known u n = known_at u.text u.tree u.notes n

abbrev pub is_number : Option ℕ → ℕ → Bool
is_number None n = false
is_number (Some a) n = nat_eq a n

-- the start, bound and step of a loop have types and are numbers, and the step is that number and not one that its type can't hold. So it is in every text
-- that is read, where they are expressions whose numbers have their types
abbrev pub is_counted : Typed → ℕ → Kind → Bool
is_counted u n (nodes.For of counter start tested bound stepped step body) =
    is_some (rules.turns (known u n) of start bound step) && is_number (step_number (known u n) step) (step_of u step)
is_counted u n kind = true

abbrev pub AreLoopsCounted : Typed → Type 0
AreLoopsCounted u = (n : ℕ) → n < length u.tree.nodes → is_counted u n (kind_at u n) ≡ true

-- ---- steps

-- the steps that were taken when it came to this
abbrev pub steps_after : Outcome → ℕ
steps_after (Next s) = s.own.steps
steps_after (Gives d s) = s.own.steps
steps_after (Wrong at reason s) = s.own.steps
steps_after (Untold s) = s.own.steps

-- at most so many, as typing notes it of a node
abbrev pub noted_steps : Typed → ℕ → ℕ
noted_steps u n = steps_of (slice_get u.notes n)

abbrev pub noted_at : Typed → Option ℕ → ℕ
noted_at u None = 0
noted_at u (Some f) = noted_steps u f

abbrev pub noted_of_process : Typed → ℕ
noted_of_process u = noted_at u (process_of u)

-- a node takes no more than is noted, from any state on, be it as an expression or as a statement
pub record TakesNoMore (u : Typed) (n : ℕ) : Type 0 where
  pub gives : (s : State) → steps_after ((meaning u n).gives s) ≤ s.own.steps + noted_steps u n
  pub does : (s : State) → steps_after ((meaning u n).does s) ≤ s.own.steps + noted_steps u n

-- a count above 1,000,000 is cut, and bounds nothing; no node that `nf_process` comes to has one
abbrev pub NodesAreBounded : Type 0
NodesAreBounded = (u : Typed) (n : ℕ) → IsWellTyped u → AreLoopsCounted u → n < length u.tree.nodes → noted_steps u n ≤ 1000000 → TakesNoMore u n

-- a run on any port, at any time, of any frame: at most the steps noted of `nf_process`, and at most 1,000,000
abbrev pub RunsAreBounded : Type 0
RunsAreBounded = (u : Typed) (port now : ℕ) (frame : List ℕ) → IsWellTyped u → AreLoopsCounted u →
    (steps_after (run u port now frame) ≤ noted_of_process u) × (steps_after (run u port now frame) ≤ 1000000)

-- ---- turns

-- so many turns of a loop are counted
abbrev pub counted_turns : Typed → ℕ → IntType → (start bound : ℕ) → Option ℕ → ℕ
counted_turns u n of start bound step = or_zero (rules.turns (known u n) of start bound step)

-- a loop does the same with as many turns as are counted as with as many as there may be: it takes no more. And these are at most 4,096
pub record TakesItsTurns (u : Typed) (n : ℕ) (of : IntType) (start bound : ℕ) (step : Option ℕ) (body : ℕ) : Type 0 where
  pub same : (s : State) →
      loop_of u (meaning_below u n) n of start bound step body s
      ≡ turns u (counted_turns u n of start bound step) n (meaning_below u n body) (first_of u of start) (constant u bound) (step_of u step)
      (on_own (declare n) s)
  pub few : counted_turns u n of start bound step ≤ 4096

abbrev pub LoopsAreBounded : Type 0
LoopsAreBounded = (u : Typed) (n : ℕ) (of : IntType) (counter : Name) (start : ℕ) (tested : Name) (bound : ℕ) (stepped : Name) (step : Option ℕ) (body : ℕ) →
    IsWellTyped u → AreLoopsCounted u → n < length u.tree.nodes → kind_at u n ≡ nodes.For of counter start tested bound stepped step body →
    TakesItsTurns u n of start bound step body
