use Rattle.std.proofs.Common.{◌≡◌, ◌+◌, ◌*◌, drop}
use Rattle.vg_small.specs.Meaning.{steps_at}
use Rattle.vg_small.proofs.small.Small.steps.Given as goal

abbrev pub invariant-loop-t : goal.invariant-loop-t
invariant-loop-t l = record {
  count : l.n ≡ 2 * l.t-index + 1;
  rest : l.n + steps_at (drop l.t-index l.t-items) l.port ≡ steps_at l.self.tests l.port + 1;
}
