use Rattle.std.proofs.Common.{◌≡◌, length}
use Rattle.vg_units.proofs.lists.WatchLists.new.Given as goal

abbrev pub invariant-loop-place : goal.invariant-loop-place
invariant-loop-place l = length l.lists.items ≡ l._place
