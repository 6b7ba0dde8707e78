use Rattle.std.proofs.Common.{◌+◌, ◌-◌, ◌*◌, ◌≤◌}
use Rattle.vg_term.specs.Wiring.{Grown}
use Rattle.vg_term.specs.Equality.{IsLowEqual}
use Rattle.vg_term.specs.Spending.{Spends}
use Rattle.vg_term.proofs.terms.Terms.equal.Given as goal

abbrev pub invariant-loop-at : goal.invariant-loop-at
invariant-loop-at l = Grown l.fn.self l.self × IsLowEqual l.self l.all l.fn.a l.fn.b l.at × (l.at ≤ l.width)
    × Spends l.fn.self l.self l.fn.cuts l.cuts (4 * l.at + 1)

abbrev pub decreases-loop-at : goal.decreases-loop-at
decreases-loop-at l = l.width - l.at
