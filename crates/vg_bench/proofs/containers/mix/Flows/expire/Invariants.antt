use Rattle.std.proofs.Common.{◌≤◌, ◌≡◌}
use Rattle.vg_bench.specs.Sizes.{AreSized}
use Rattle.vg_bench.proofs.containers.mix.Flows.expire.Given as goal

abbrev pub invariant-loop-turn : goal.invariant-loop-turn
invariant-loop-turn g l = record {
  sized : AreSized l.self.indices l.self.ages;
  highest : l.self.ages.highest ≡ l.initial.self.ages.highest;
  end : l._turn-end ≤ 65536;
  count : l.expired ≤ l._turn;
}
