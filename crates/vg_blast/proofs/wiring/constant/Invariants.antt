use Rattle.std.proofs.Common.{◌%◌, ◌^◌}
use Rattle.vg_blast.specs.Circuits.{IsConstant}
use Rattle.vg_blast.proofs.wiring.constant.Given as goal

abbrev pub invariant-loop-at : goal.invariant-loop-at
invariant-loop-at l = IsConstant l.out.items l.at (l.word.value % 2 ^ l.at)
