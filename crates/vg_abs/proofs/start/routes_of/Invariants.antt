use Rattle.std.proofs.Common.{◌≡◌, ◌≤◌, drop, length, ℕ}
use Rattle.std.specs.Prelude.{reverse, is_some}
use Rattle.std.specs.List.{list_any}
use Rattle.std.specs.FinMap.{get}
use Rattle.vg_abs.specs.Opening as openings
use Rattle.vg_abs.proofs.start.routes_of.Given as goal

abbrev pub decreases-loop-left : goal.decreases-loop-left
decreases-loop-left l = l.left

abbrev pub invariant-loop-left : goal.invariant-loop-left
invariant-loop-left l = record {
  within : l.left ≤ length l.routes;
  kept : reverse l.kept.items ≡ openings.routes_of l.table (drop l.left l.routes);
  noted : (prefix : ℕ) → is_some (get l.later prefix) ≡ list_any (openings.has_prefix l.table prefix) (drop l.left l.routes);
}
