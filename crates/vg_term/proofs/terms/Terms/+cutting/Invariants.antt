use Rattle.std.proofs.Common.{◌+◌, ◌-◌, ◌*◌, ◌≤◌, length}
use Rattle.vg_term.specs.Wiring.{Grown, AllStand, IsWired}
use Rattle.vg_term.specs.Spending.{Spends}
use Rattle.vg_term.proofs.terms.Terms.+cutting.Given as goal

abbrev pub invariant-rebuild-loop-end : goal.invariant-rebuild-loop-end
invariant-rebuild-loop-end l =
    Grown l.fn.self l.self × IsWired l.self l.low l.wires 0 l.end × AllStand l.self l.wires l.width × (l.end ≤ l.width) × (l.width ≤ 64)
    × (l.width ≤ length l.wires) × Spends l.fn.self l.self l.fn.cuts l.cuts (2 * l.end)

abbrev pub decreases-rebuild-loop-end : goal.decreases-rebuild-loop-end
decreases-rebuild-loop-end l = l.width - l.end

abbrev pub decreases-cut_from : goal.decreases-cut_from
decreases-cut_from l = 7 * l.cuts.now

abbrev pub decreases-piece : goal.decreases-piece
decreases-piece l = 7 * l.cuts.now + 1

abbrev pub decreases-rebuild : goal.decreases-rebuild
decreases-rebuild l = 7 * l.cuts.now + 2

abbrev pub decreases-slice : goal.decreases-slice
decreases-slice l = 7 * l.cuts.now + 3

abbrev pub decreases-wired : goal.decreases-wired
decreases-wired l = 7 * l.cuts.now + 3

abbrev pub decreases-cut_parts : goal.decreases-cut_parts
decreases-cut_parts l = 7 * l.cuts.now + 4

abbrev pub decreases-cut_of_one : goal.decreases-cut_of_one
decreases-cut_of_one l = 7 * l.cuts.now + 5

abbrev pub decreases-cut_of_two : goal.decreases-cut_of_two
decreases-cut_of_two l = 7 * l.cuts.now + 5

abbrev pub decreases-cut_of_three : goal.decreases-cut_of_three
decreases-cut_of_three l = 7 * l.cuts.now + 5

abbrev pub decreases-cut_operation : goal.decreases-cut_operation
decreases-cut_operation l = 7 * l.cuts.now + 6
