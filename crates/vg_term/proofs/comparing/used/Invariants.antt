use Rattle.std.proofs.Common.{◌<◌, ◌≤◌}
use Rattle.vg_term.specs.Narrowing.{AreOff}
use Rattle.vg_term.proofs.comparing.used.Given as goal

abbrev pub invariant-loop-end : goal.invariant-loop-end
invariant-loop-end l = (0 < l.end) × (l.end ≤ l.width) × AreOff l.wires l.end l.width

abbrev pub decreases-loop-end : goal.decreases-loop-end
decreases-loop-end l = l.end
