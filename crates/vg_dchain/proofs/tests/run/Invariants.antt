use Rattle.std.proofs.Common.{◌≡◌, ◌≤◌}
use Rattle.vg_dchain.proofs.tests.run.Given as goal

abbrev pub invariant-loop-turn : goal.invariant-loop-turn
invariant-loop-turn g l = record { range : l.chain.range ≡ 5; count : l.same ≤ l.turn }
