use Rattle.std.proofs.Common.{◌≡◌, ◌≤◌, drop, length}
use Rattle.vg_stree.specs.Routes as routes
use Rattle.vg_abs.proofs.routing.longest_match.Given as goal

abbrev pub decreases-loop-left : goal.decreases-loop-left
decreases-loop-left l = l.left

abbrev pub invariant-loop-left : goal.invariant-loop-left
invariant-loop-left l = record {
  within : l.left ≤ length l.table;
  best : l.best ≡ routes.route_for (drop l.left l.table) l.address;
}
