-- What comes of running a part of a C text.
use Rattle.std.specs.Prelude.{ℕ, List, Option, Some, None, Result, Ok, Err}
use Rattle.vg_core.specs.declared.reason.Reason.{Reason}
use Rattle.vg_cmemory.specs.State.{Own, State}
use Rattle.vg_cmemory.specs.State as memory
use Rattle.vg_cmean.specs.declared.datum.Datum.{Datum}
use Rattle.vg_cmean.specs.declared.datum.Datum.TheVariants as data_of
use Rattle.vg_cmean.specs.declared.fault.Fault.{Fault}

pub data Outcome : Type 0 where
  -- a statement goes on to the next one
  Next : State → Outcome
  -- an expression has this, or a function returns it
  Gives : Datum → State → Outcome
  -- nothing has a meaning from here on; the state is the last one that had
  Wrong : (at : ℕ) → Reason → State → Outcome
  -- a partial library was asked what it doesn't tell. No library is partial yet, so nothing comes to this
  Untold : State → Outcome

-- evaluate, and then go on with what it gave
abbrev pub and_then : Outcome → (Datum → State → Outcome) → Outcome
and_then (Next s) go = go data_of.Nothing s
and_then (Gives d s) go = go d s
and_then (Wrong at reason s) go = Wrong at reason s
and_then (Untold s) go = Untold s

-- run a statement, and then the next one, where it doesn't return
abbrev pub after : Outcome → (State → Outcome) → Outcome
after (Next s) go = go s
after (Gives d s) go = Gives d s
after (Wrong at reason s) go = Wrong at reason s
after (Untold s) go = Untold s

-- what can be refused goes wrong there
abbrev pub or_wrong : {A : Type 0} → Result A Reason → (at : ℕ) → State → (A → Outcome) → Outcome
or_wrong (Ok x) at s go = go x
or_wrong (Err reason) at s go = Wrong at reason s

-- the state of a run, by its own part and the frame
abbrev pub full : Own → List ℕ → State
full own frame = record { own = own; frame = frame }

abbrev pub on_own : (Own → Own) → State → State
on_own change s = record s { own = change s.own }

-- one step more
abbrev pub tick : State → State
tick s = on_own memory.tick s

-- ---- the same, from what the program answers

abbrev pub gives : Result Datum Fault → State → Outcome
gives (Ok d) s = Gives d s
gives (Err fault) s = Wrong fault.at fault.reason s

abbrev pub does : Result (Option Datum) Fault → State → Outcome
does (Ok None) s = Next s
does (Ok (Some d)) s = Gives d s
does (Err fault) s = Wrong fault.at fault.reason s

abbrev pub goes : {A : Type 0} → Result A Fault → State → Outcome
goes (Ok done) s = Next s
goes (Err fault) s = Wrong fault.at fault.reason s

-- a refusal at a place of the text
abbrev pub at_place : {A : Type 0} → Result A Reason → ℕ → Result A Fault
at_place (Ok x) at = Ok x
at_place (Err reason) at = Err (record { at = at; reason = reason })
