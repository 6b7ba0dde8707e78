use Rattle.std.proofs.Common.{◌-◌, ◌≤◌, length}
use Rattle.vg_term.specs.Wiring.{IsRun}
use Rattle.vg_term.proofs.wire.run_end.Given as goal

abbrev pub invariant-loop-to : goal.invariant-loop-to
invariant-loop-to l = IsRun l.wires l.from l.to × (l.to ≤ l.width) × (l.width ≤ 64) × (l.width ≤ length l.wires)

abbrev pub decreases-loop-to : goal.decreases-loop-to
decreases-loop-to l = l.width - l.to
