use Rattle.std.proofs.Common.{◌-◌, ◌^◌, ◌++◌, List}
use Rattle.vg_base.specs.Files.{Disk}
use Rattle.vg_replay.specs.Handler.{HandlesAll}
use Rattle.vg_replay.specs.Outputs.{Handled}
use Rattle.vg_replay.specs.Replays.{ReplayFiles}
use Rattle.vg_replay.specs.UnderWay.{Going, IsReady}
use Rattle.vg_replay.proofs.under_way.Replay.run.Given as goal

abbrev pub invariant-loop-next : goal.invariant-loop-next
invariant-loop-next g l =
    ((s : Disk) (n : ReplayFiles) (before : List Handled) → Going s (g.F.Files.disk l.initial.files) n l.initial.replay.files before →
    (more : List Handled) × HandlesAll g.H.Handler.handles l.initial.replay.handler more l.replay.handler
    × Going s (g.F.Files.disk l.files) n l.replay.files (before ++ more))
    × IsReady (g.H.Handler.takes l.replay.handler) l.replay.files.inputs

abbrev pub decreases-loop-next : goal.decreases-loop-next
decreases-loop-next g l = 2 ^ 32 - l.replay.files.totals.frames
