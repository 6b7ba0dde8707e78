use Rattle.std.proofs.Common.{◌≡◌, ◌++◌, ℕ, List}
use Rattle.vg_replay.specs.UnderWay.{AreWritable}
use Rattle.vg_replay.specs.Writing.{ClosesWritten}
use Rattle.vg_replay.proofs.outputs.close_captures.Given as goal

abbrev pub invariant-loop-capture : goal.invariant-loop-capture
invariant-loop-capture g l =
    (closed : List ℕ) × (l.initial.captures.items ≡ l.captures.items ++ closed) × AreWritable (g.F.Files.disk l.files) l.captures.items
    × ClosesWritten (g.F.Files.disk l.initial.files) (g.F.Files.disk l.files) closed l.result

abbrev pub decreases-loop-capture : goal.decreases-loop-capture
decreases-loop-capture g l = goal.left-loop-capture g l
