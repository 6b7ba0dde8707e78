use Rattle.vg_bench.specs.Sizes.{IsSized}
use Rattle.vg_bench.proofs.containers.lookups.full_map.Given as goal

abbrev pub invariant-loop-flow : goal.invariant-loop-flow
invariant-loop-flow l = IsSized l.map
