-- What calls of the library work on, and how they end.
use Rattle.std.specs.Prelude.{ℕ, List, Result, Ok, Err}
use Rattle.vg_core.specs.declared.reason.Reason.{Reason}
use Rattle.vg_cmemory.specs.State as memory
use Rattle.vg_cmemory.specs.State.{Own}
use Rattle.vg_abs.specs.State as library
use Rattle.vg_crows.specs.declared.answer.Stop.{Stop}
use Rattle.vg_crows.specs.declared.answer.Stop.TheVariants as stops
use Rattle.vg_crows.specs.Record.{Record}

-- the objects of the run and its frame, the library's state, and what was done with it in this frame
pub record State : Type 0 where
  pub memory : memory.State
  pub library : library.State
  pub book : Record

-- a state by its parts
abbrev pub full : Own → (frame : List ℕ) → library.State → Record → State
full own frame tables book = record { memory = record { own = own; frame = frame }; library = tables; book = book }

-- one thing, and then the next, unless the first comes to no end
abbrev pub and_then : {A : Type 0} → {B : Type 0} → Result A Stop → (A → Result B Stop) → Result B Stop
and_then (Ok x) go = go x
and_then (Err stop) go = Err stop

-- what may have no meaning
abbrev pub or_wrong : {A : Type 0} → Result A Reason → Result A Stop
or_wrong (Ok x) = Ok x
or_wrong (Err reason) = Err (stops.Wrong reason)
