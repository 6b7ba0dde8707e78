-- A run up to its printing. No public clause rests on this file.
use Rattle.std.specs.Prelude.{ℕ, List, IsTrue, Result, IfOk, IfErr}
use Rattle.vg_base.specs.Files.{Disk, SameHeld, SameIds}
use Rattle.vg_command.specs.Commands.{Files}
use Rattle.vg_small.specs.declared.small.Small.{Small}
use Rattle.vg_replay.specs.Replays.{KeepsOthers, HasReplayed}
use Rattle.vg_top.specs.declared.report.Report.{Report}
use Rattle.vg_top.specs.declared.stop.Stop.{Stop}
use Rattle.vg_top.specs.Agreement.{IsPathCount, IsMostSteps}
use Rattle.vg_top.specs.Effects.{Leaves}
use Rattle.vg_top.specs.Endings.{AreVerified}
use Rattle.vg_top.specs.Frames.{AreHandledBy}
use Rattle.vg_top.specs.Runs.{replay_files}

-- a run on these files was done, and this is its report
pub record HasRun (s t : Disk) (n : Files) (r : Report) : Type 0 where
  pub c : Small
  pub spec : Small
  pub verified : AreVerified s n c spec
  pub paths : IsPathCount c spec spec.ports r.paths
  pub steps : IsMostSteps c spec.ports r.steps
  pub replayed : HasReplayed s t (replay_files n) (AreHandledBy c) r.totals
  pub others : IsTrue s.tells_made → KeepsOthers s t (replay_files n)

-- a run on these files, up to its printing
pub record Runs (s t : Disk) (n : Files) (result : Result Report Stop) : Type 0 where
  pub held : SameHeld s t
  pub ids : SameIds s t
  pub done : IfOk result (HasRun s t n)
  pub stops : IfErr result (Leaves s t n)
