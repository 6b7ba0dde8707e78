-- Calls that are counted, seen as a plan.
use Rattle.vg_doubles.specs.declared.calls.Calls.{Calls}
use Rattle.vg_doubles.specs.Plan.{Plan}

-- which calls were made, and which are to fail
abbrev pub counted : Calls → Plan
counted calls = record { calls = calls.count; fails = calls.fails.items }
