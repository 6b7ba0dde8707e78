-- A replay after its handler was given a frame.
use Rattle.std.proofs.Common.{◌≡◌, ◌≢◌, List, Bool, Result, Ok, Err, refl, subst, sym}
use Rattle.std.specs.Result.{IsErrAnd}
use Rattle.vg_base.specs.Files.{Disk}
use Rattle.vg_pcap.specs.Arrivals.{Arrival}
use Rattle.vg_pcap.specs.Merge.{Input, IsChanged}
use Rattle.vg_replay.specs.declared.stop.RunStop.{RunStop}
use Rattle.vg_replay.specs.declared.stop.RunStop.TheVariants as stops
use Rattle.vg_replay.proofs.Handling.{IsFirstLeft, frame_fails, handler_stops}
use Rattle.vg_replay.proofs.Histories.{next_none, next_one}
use Rattle.vg_replay.specs.Outputs.{Handled}
use Rattle.vg_replay.specs.Handler.{HandledNext, StopsNext}
use Rattle.vg_replay.specs.Replays.{ReplayFiles, most_frames}
use Rattle.vg_replay.specs.UnderWay.{ReplayOf, Going}
use Rattle.vg_replay.specs.Stepping.{handled_with, HandlesFrame, HasChanged, HasStopped, Steps}

module _ {H S : Type 0} (Handles : H → Handled → H → Type 0) (Stops : H → Arrival → S → Type 0) where
  -- the handler stopped, or the frame couldn't be written
  wrong : (s t u : Disk) (n : ReplayFiles) (old new : ReplayOf H) (past : List Handled) (mid : List Input) (a : Arrival) (stop : RunStop S)
      → Going s t n old.files past → old.files.totals.frames ≢ most_frames → IsChanged old.files.inputs mid a
      → IsFirstLeft old.files.inputs a → HandlesFrame Handles Stops t u old new a (Err stop)
      → HasStopped s u n (record old.files { inputs = mid }) (HandledNext Handles past old.handler) (StopsNext Stops past old.handler) stop
  wrong s t u n old new past mid a (stops.Capture port refusal) x not changed first y = absurd y
  wrong s t u n old new past mid a stops.Read x not changed first y = absurd y
  wrong s t u n old new past mid a stops.Write x not changed first y =
      frame_fails (handled_with a y.0 y.1) (next_one Handles Stops past old.handler (handled_with a y.0 y.1) new.handler y.2) x not changed first y.3 y.4
  wrong s t u n old new past mid a stops.Frames x not changed first y = absurd y
  wrong s t u n old new past mid a stops.Memory x not changed first y = absurd y
  wrong s t u n old new past mid a (stops.Handler reason) x not changed first y =
      let unmoved : Going s u n old.files past = subst (λ (d : Disk). Going s d n old.files past) (sym y.1) x in
      handler_stops a reason (next_none Handles Stops past old.handler) (refl, y.0) unmoved not changed first

  -- the same is answered
  pub went_wrong : (s t u : Disk) (n : ReplayFiles) (old new : ReplayOf H) (past : List Handled) (a : Arrival) (stop : RunStop S)
      (result : Result Bool (RunStop S)) → IsErrAnd result (λ e. e ≡ stop) → Going s t n old.files past
      → old.files.totals.frames ≢ most_frames → HasChanged old.files new.files a → IsFirstLeft old.files.inputs a
      → HandlesFrame Handles Stops t u old new a (Err stop) → Steps Handles Stops s t u n old new past result
  went_wrong s t u n old new past a stop (Ok done) is x not changed first y = absurd is
  went_wrong s t u n old new past a stop (Err e) is x not changed first y = rw (is, changed.1)
      (wrong s t u n old new past new.files.inputs a stop x not changed.0 first y)
