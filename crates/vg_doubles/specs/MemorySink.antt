-- What a caller sees of a sink in memory.
use Rattle.std.specs.Prelude.{ℕ, true}
use Rattle.vg_doubles.specs.declared.memory_sink.MemSink.{MemSink}
use Rattle.vg_base.specs.Sink.{Flow}
use Rattle.vg_doubles.specs.Plan.{Plan}
use Rattle.vg_doubles.specs.Calls.{counted}

-- what is seen of all sinks; what was written is told
abbrev pub flow_of : MemSink → Flow
flow_of sink = record { faults = sink.faults; tells_made = true; made = sink.made.items }

-- how many calls were made, and which are to fail
abbrev pub plan_of : MemSink → Plan
plan_of sink = counted sink.calls

-- how many bytes the sink takes
abbrev pub room_of : MemSink → ℕ
room_of sink = sink.room
