use Rattle.std.proofs.Common.{◌≡◌}
use Rattle.vg_cmean.specs.Nesting.{depths_below}
use Rattle.vg_cmean.proofs.nesting.depths.Given as goal

abbrev pub invariant-loop-n : goal.invariant-loop-n
invariant-loop-n l = l.depths.items ≡ depths_below l.unit l.n
