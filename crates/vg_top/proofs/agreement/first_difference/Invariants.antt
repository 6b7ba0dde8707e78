use Rattle.std.proofs.Common.{ℕ, ◌<◌}
use Rattle.vg_top.specs.Agreement.{AgreeAt}
use Rattle.vg_top.proofs.agreement.first_difference.Given as goal

abbrev pub invariant-loop-port : goal.invariant-loop-port
invariant-loop-port l = (before : ℕ) → before < l.port → AgreeAt l.c l.spec before
