use Rattle.std.proofs.Common.{◌≡◌}
use Rattle.vg_frames.specs.Frames as frames
use Rattle.vg_frames.proofs.frames.checksum.Given as goal

abbrev pub invariant-loop-k : goal.invariant-loop-k
invariant-loop-k l = l.sum ≡ frames.sum_of l.header l.k
