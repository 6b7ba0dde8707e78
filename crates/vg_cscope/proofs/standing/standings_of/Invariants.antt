use Rattle.std.proofs.Common.{◌≡◌, ◌-◌}
use Rattle.vg_cscope.specs.Scopes as scopes
use Rattle.vg_cscope.proofs.standing.standings_of.Given as goal

abbrev pub invariant-loop-below : goal.invariant-loop-below
invariant-loop-below l = scopes.told_below l.tree (l.count - l.below) l.standings.items ≡ scopes.standings_of l.tree
