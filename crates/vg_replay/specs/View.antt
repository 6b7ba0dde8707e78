-- What is seen of a frame in memory.
use Rattle.std.specs.Prelude.{ℕ, List}
use Rattle.vg_pcap.specs.Frames.{Framed}
use Rattle.vg_pcap.specs.Arrivals.{Arrival}
use Rattle.vg_replay.specs.declared.handled.FrameHead.{FrameHead}
use Rattle.vg_replay.specs.declared.handled.HandledFrame.{HandledFrame}
use Rattle.vg_replay.specs.declared.handled.Outcome.{Outcome}
use Rattle.vg_replay.specs.Outputs.{Handled}

-- a frame with these bytes
abbrev pub framed : FrameHead → List ℕ → Framed
framed head bytes = record { time = head.time; original = head.original; bytes = bytes }

-- a frame that came in with these bytes
abbrev pub arrival_of : FrameHead → List ℕ → Arrival
arrival_of head bytes = record { port = head.port; frame = framed head bytes }

-- a frame that came in with these bytes and was left with those, and what was done with it
abbrev pub handled_as : FrameHead → (came left : List ℕ) → Outcome → Handled
handled_as head came left outcome =
    record { arrival = arrival_of head came; bytes = left; verdict = outcome.verdict; steps = outcome.steps; handed = outcome.handed.items }

-- a frame as it goes out
abbrev pub outgoing : HandledFrame → Framed
outgoing h = framed h.head h.bytes.now

-- all of it, where it came in with these bytes
abbrev pub view : HandledFrame → List ℕ → Handled
view h came = handled_as h.head came h.bytes.now h.outcome.now
