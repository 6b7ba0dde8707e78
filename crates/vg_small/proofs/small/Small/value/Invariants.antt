use Rattle.std.proofs.Common.{◌≡◌, drop}
use Rattle.vg_small.specs.Meaning.{value_at}
use Rattle.vg_small.proofs.small.Small.value.Given as goal

abbrev pub invariant-loop-t : goal.invariant-loop-t
invariant-loop-t l = value_at (drop l.t-index l.t-items) l.self.last l.port ≡ value_at l.self.tests l.self.last l.port
