-- What the arrays of a memory stand for.
use Rattle.std.specs.Prelude.{ℕ, ◌<◌, ◌≤◌, nat_eq, List, All, length, map, Some, None, if◌then◌else◌}
use Rattle.vg_cmemory.specs.declared.local.Local.{Local}
use Rattle.vg_cmemory.specs.State.{Life, Slot}

abbrev pub life_of : Local → Life
life_of local = record { number = local.number; bytes = local.bytes.items; points = local.points }

-- what was made in an earlier run doesn't live in this one
abbrev pub slot_of : ℕ → Local → Slot
slot_of run local = record { size = length local.bytes.items; life = if nat_eq local.run run then Some (life_of local) else None }

abbrev pub slots_of : ℕ → List Local → List Slot
slots_of run locals = map (slot_of run) locals

-- runs are counted from 1; what lives no longer is of run 0
pub record AreOfRuns (run : ℕ) (locals : List Local) : Type 0 where
  pub counted : 0 < run
  pub past : All (λ (local : Local). local.run ≤ run) locals
