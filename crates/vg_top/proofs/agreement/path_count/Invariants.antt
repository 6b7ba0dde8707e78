use Rattle.std.proofs.Common.{◌≤◌}
use Rattle.vg_top.specs.Agreement.{IsPathCount}
use Rattle.vg_top.proofs.agreement.path_count.Given as goal

abbrev pub invariant-loop-port : goal.invariant-loop-port
invariant-loop-port l = IsPathCount l.c l.spec l.port l.count × (l.count ≤ l.port)
