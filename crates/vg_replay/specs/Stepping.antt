-- The parts of handling a frame. No public clause rests on this file.
use Rattle.std.specs.Prelude.{ℕ, ◌+◌, ◌≤◌, ◌^◌, ◌≡◌, List, [], ◌∷◌, ◌++◌, length, false, All, IsTrue, Bool, true, Result, Ok, Err}
use Rattle.vg_base.specs.declared.faults.Failed.{Failed}
use Rattle.vg_base.specs.Files.{Disk, Counts, SameHeld}
use Rattle.vg_base.specs.Several.{DiffersBy}
use Rattle.vg_pcap.specs.declared.faults.CaptureFault.{CaptureFault}
use Rattle.vg_pcap.specs.declared.faults.CaptureFault.TheVariants as faults
use Rattle.vg_pcap.specs.declared.merge.MergeFault.{MergeFault}
use Rattle.vg_pcap.specs.Frames.{Stream}
use Rattle.vg_pcap.specs.Arrivals.{Arrival, AllCome}
use Rattle.vg_pcap.specs.Merge.{IsNext, IsChanged, Comes}
use Rattle.vg_replay.specs.declared.stop.RunStop.{RunStop}
use Rattle.vg_replay.specs.declared.stop.RunStop.TheVariants as stops
use Rattle.vg_replay.specs.Replays.{ReplayFiles, IsOfPorts, KeepsOthers, StopsBegun}
use Rattle.vg_replay.specs.declared.handled.Outcome.{Outcome}
use Rattle.vg_replay.specs.Outputs.{Handled}
use Rattle.vg_replay.specs.Writing.{WritesFrame}
use Rattle.vg_replay.specs.Handler.{HandledNext, StopsNext}
use Rattle.vg_replay.specs.UnderWay.{Replaying, ReplayOf, HasOpened, Going, open_ids}

-- why a replay stops where its inputs can't be read on
abbrev pub stop_at : {S : Type 0} → ℕ → CaptureFault → RunStop S
stop_at port (faults.Refused refusal) = stops.Capture port refusal
stop_at port faults.Read = stops.Read
stop_at port faults.Memory = stops.Memory

abbrev pub stop_of : {S : Type 0} → MergeFault → RunStop S
stop_of e = stop_at e.port e.fault

-- a replay has stopped, and its files are still open
pub record HasStopped {S : Type 0} (s t : Disk) (n : ReplayFiles) (r : Replaying) (IsHistory : List Handled → Type 0)
    (StopsAt : List Handled → Arrival → S → Type 0) (stop : RunStop S) : Type 0 where
  pub opened : HasOpened s t n r
  pub others : IsTrue s.tells_made → KeepsOthers s t n
  pub stops : StopsBegun s t n IsHistory StopsAt stop

-- no frame is left
pub record HasEnded (t : Disk) (r : Replaying) : Type 0 where
  pub none_waits : All (λ input. input.waits ≡ false) r.inputs
  pub all : (streams : List Stream) (past : List Arrival) → Comes t r.inputs streams past → AllCome streams past

-- a frame that was left with these bytes, and with which this was done
abbrev pub handled_with : Arrival → List ℕ → Outcome → Handled
handled_with a left outcome = record { arrival = a; bytes = left; verdict = outcome.verdict; steps = outcome.steps; handed = outcome.handed.items }

-- nothing changed but the bytes of a frame, and those in place
abbrev pub HasChanged : Replaying → Replaying → Arrival → Type 0
HasChanged old new a = IsChanged old.inputs new.inputs a × (new ≡ record old { inputs = new.inputs })

module _ {H S : Type 0} (Handles : H → Handled → H → Type 0) (Stops : H → Arrival → S → Type 0) where
  -- the next frame was handled; or none was left, and nothing was done; or the replay stopped
  abbrev pub Steps : Disk → Disk → Disk → ReplayFiles → ReplayOf H → ReplayOf H → List Handled → Result Bool (RunStop S) → Type 0
  Steps s t u n old new past (Ok true) =
      (h : Handled) × Handles old.handler h new.handler × IsNext old.files.inputs h.arrival × Going s u n new.files (past ++ h ∷ [])
  Steps s t u n old new past (Ok false) = (new ≡ old) × (u ≡ t) × HasEnded u new.files
  Steps s t u n old new past (Err stop) = HasStopped s u n new.files (HandledNext Handles past old.handler) (StopsNext Stops past old.handler) stop

  -- The next frame was handled and written; or it was handled, and a fault was counted as it was written; or the handler stopped, and nothing was touched.
  abbrev pub HandlesFrame : Disk → Disk → ReplayOf H → ReplayOf H → Arrival → Result Outcome (RunStop S) → Type 0
  HandlesFrame s t old new a (Ok outcome) =
      (left : List ℕ) × Handles old.handler (handled_with a left outcome) new.handler × (outcome.steps ≤ 2 ^ 31)
      × IsOfPorts (length old.files.inputs) (handled_with a left outcome)
      × WritesFrame s t old.files.outs old.files.log (old.files.totals.frames + 1) (handled_with a left outcome) (Ok tt)
  HandlesFrame s t old new a (Err stops.Write) =
      (left : List ℕ) × (outcome : Outcome) × Handles old.handler (handled_with a left outcome) new.handler
      × IsOfPorts (length old.files.inputs) (handled_with a left outcome)
      × WritesFrame s t old.files.outs old.files.log (old.files.totals.frames + 1) (handled_with a left outcome) (Err (record {}))
  HandlesFrame s t old new a (Err (stops.Handler reason)) = Stops old.handler a reason × (t ≡ s)
  HandlesFrame s t old new a (Err _) = ⊥

-- every file of a replay was closed; a failure tells of one that was written
pub record ClosesAll (s t : Disk) (r : Replaying) (result : Result (Unit {0}) Failed) : Type 0 where
  pub faults : Counts s.write_faults t.write_faults result
  pub read_faults : t.read_faults ≡ s.read_faults
  pub held : SameHeld s t
  pub made : t.made ≡ s.made
  pub closes : DiffersBy t s (open_ids r)
