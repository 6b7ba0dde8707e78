-- What the calls on a replay do. Its handler handles and stops as `Handles` and `Stops` say.
use Rattle.std.specs.Prelude.{◌≡◌, List, [], ◌∷◌, ◌++◌, false, All, Result, Ok, Err}
use Rattle.vg_base.specs.Files.{Disk}
use Rattle.vg_pcap.specs.Arrivals.{Arrival}
use Rattle.vg_pcap.specs.Merge.{IsNext}
use Rattle.vg_replay.specs.declared.under_way.Next.{Next}
use Rattle.vg_replay.specs.declared.under_way.Next.TheVariants as nexts
use Rattle.vg_replay.specs.declared.stop.RunStop.{RunStop}
use Rattle.vg_replay.specs.declared.totals.Totals.{Totals}
use Rattle.vg_replay.specs.Outputs.{Handled}
use Rattle.vg_replay.specs.Handler.{Takes, HandledFrom, StopsFrom, HandledNext, StopsNext, HandledAfter, StopsAfter}
use Rattle.vg_replay.specs.Replays.{ReplayFiles, Replays, StopsBegun}
use Rattle.vg_replay.specs.UnderWay.{ReplayOf, Going, IsReady}

-- the handler of a replay that goes on takes what comes in
abbrev pub IsReadyOn : {H : Type 0} → (H → Takes) → Next H → Type 0
IsReadyOn takes (nexts.Again r) = IsReady (takes r.handler) r.files.inputs
IsReadyOn takes (nexts.End totals) = Unit {0}

module _ {H S : Type 0} (Handles : H → Handled → H → Type 0) (Stops : H → Arrival → S → Type 0) where
  -- frames were replayed through a handler that was in this state, or this stopped it
  abbrev pub ReplaysThrough : Disk → Disk → ReplayFiles → H → Result Totals (RunStop S) → Type 0
  ReplaysThrough s t n handler result = Replays s t n (HandledFrom Handles handler) (StopsFrom Handles Stops handler) result

  -- the same of a replay that had handled past frames
  abbrev pub ReplaysOn : Disk → Disk → ReplayFiles → ReplayOf H → List Handled → Result Totals (RunStop S) → Type 0
  ReplaysOn s t n r past result = Replays s t n (HandledAfter Handles past r.handler) (StopsAfter Handles Stops past r.handler) result

  -- why one stops that was begun
  abbrev pub StopsOn : Disk → Disk → ReplayFiles → ReplayOf H → List Handled → RunStop S → Type 0
  StopsOn s t n r past stop = StopsBegun s t n (HandledAfter Handles past r.handler) (StopsAfter Handles Stops past r.handler) stop

  -- a replay through this handler was begun, and has handled no frame; or this stopped it, before any
  abbrev pub StartsReplay : Disk → Disk → ReplayFiles → H → Result (ReplayOf H) (RunStop S) → Type 0
  StartsReplay s t n handler (Ok r) = (r.handler ≡ handler) × Going s t n r.files []
  StartsReplay s t n handler (Err stop) = Replays s t n (λ handled. handled ≡ []) (λ handled a reason. ⊥) (Err stop)

  -- A replay that began at s and handled these frames has handled the next one; or none was left, and it ended; or it stopped, at the next one or
  -- right after it. Its start alone
  -- takes memory and reads headers.
  abbrev pub HandlesNext : Disk → Disk → ReplayFiles → ReplayOf H → List Handled → Result (Next H) (RunStop S) → Type 0
  HandlesNext s t n r past (Ok (nexts.Again next)) =
      (h : Handled) × Handles r.handler h next.handler × IsNext r.files.inputs h.arrival × Going s t n next.files (past ++ h ∷ [])
  HandlesNext s t n r past (Ok (nexts.End totals)) = All (λ input. input.waits ≡ false) r.files.inputs × ReplaysOn s t n r past (Ok totals)
  HandlesNext s t n r past (Err stop) =
      StopsBegun s t n (HandledNext Handles past r.handler) (StopsNext Stops past r.handler) stop
      × Replays s t n (HandledNext Handles past r.handler) (StopsNext Stops past r.handler) (Err stop)

  -- a replay that began at s and handled these frames went on until it ended or stopped
  abbrev pub GoesOn : Disk → Disk → ReplayFiles → ReplayOf H → List Handled → Result Totals (RunStop S) → Type 0
  GoesOn s t n r past (Ok totals) = ReplaysOn s t n r past (Ok totals)
  GoesOn s t n r past (Err stop) = StopsOn s t n r past stop × ReplaysOn s t n r past (Err stop)
