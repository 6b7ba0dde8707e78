use Rattle.std.proofs.Common.{ℕ, ◌<◌, ◌≢◌}
use Rattle.vg_top.specs.Agreement.{sides}
use Rattle.vg_top.proofs.agreement.goes_new_way.Given as goal

abbrev pub invariant-loop-lower : goal.invariant-loop-lower
invariant-loop-lower l = (before : ℕ) → before < l.lower → sides l.c l.spec before ≢ sides l.c l.spec l.port
