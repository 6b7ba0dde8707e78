-- What a small function does with frames.
use Rattle.std.specs.Prelude.{ℕ, ◌≡◌, ◌≤◌, ◌^◌, List, [], map}
use Rattle.vg_core.specs.declared.verdict.Verdict.{Verdict}
use Rattle.vg_small.specs.declared.small.Small.{Small}
use Rattle.vg_small.specs.Meaning.{verdict_at, steps_at}
use Rattle.vg_pcap.specs.Arrivals.{Arrival}
use Rattle.vg_replay.specs.Outputs.{Handled, arrivals_of}

-- what a function does with a frame of this port
abbrev pub verdict_by : Small → ℕ → Verdict
verdict_by f port = verdict_at f.tests f.last port

-- what it does with a frame; it changes none, and hands out no index
abbrev pub handle_at : Small → Arrival → Handled
handle_at f a = record { arrival = a; bytes = a.frame.bytes; verdict = verdict_by f a.port; steps = steps_at f.tests a.port; handed = [] }

-- what it does with frames, in order
abbrev pub handled_by : Small → List Arrival → List Handled
handled_by f arrivals = map (handle_at f) arrivals

-- a handler of frames that is this function, and stays it
abbrev pub Handles : Small → Handled → Small → Type 0
Handles f h later = (later ≡ f) × (h ≡ handle_at f h.arrival)

-- these were done with frames by it
abbrev pub AreHandledBy : Small → List Handled → Type 0
AreHandledBy f handled = handled ≡ handled_by f (arrivals_of handled)

-- no frame takes more steps than this
abbrev pub AlwaysTakesFewSteps : Small → Type 0
AlwaysTakesFewSteps f = (port : ℕ) → steps_at f.tests port ≤ 2 ^ 31
