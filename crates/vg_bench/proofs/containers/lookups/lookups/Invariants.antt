use Rattle.std.proofs.Common.{◌≤◌}
use Rattle.vg_bench.specs.Sizes.{IsSized}
use Rattle.vg_bench.proofs.containers.lookups.lookups.Given as goal

abbrev pub invariant-loop-turn : goal.invariant-loop-turn
invariant-loop-turn l = record {
  sized : IsSized l.map;
  count : l.found ≤ l._turn;
}
