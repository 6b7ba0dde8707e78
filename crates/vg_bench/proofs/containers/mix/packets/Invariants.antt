use Rattle.std.proofs.Common.{◌≤◌, ◌+◌, ◌*◌}
use Rattle.vg_bench.specs.Sizes.{AreSized}
use Rattle.vg_bench.proofs.containers.mix.packets.Given as goal

abbrev pub invariant-loop-turn : goal.invariant-loop-turn
invariant-loop-turn g l = record {
  sized : AreSized l.flows.indices l.flows.ages;
  time : l.flows.ages.highest ≤ l.turn * 1000;
  met : l.found + l.new ≤ l.turn;
  expired : l.expired ≤ l.turn * 65536;
}
