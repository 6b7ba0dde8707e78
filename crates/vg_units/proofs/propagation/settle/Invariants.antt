use Rattle.std.proofs.Common.{◌≡◌, ◌-◌, length, take}
use Rattle.vg_units.specs.Watching.{list_of}
use Rattle.vg_units.specs.Propagating.{Advances}
use Rattle.vg_units.proofs.Visiting.{Pending}
use Rattle.vg_units.proofs.propagation.settle.Given as goal

-- each clause needs no look, or stands in the list from here on
abbrev pub invariant-loop-at : goal.invariant-loop-at
invariant-loop-at l = record {
  advances : Advances l.initial.watches l.watches l.initial.trail l.trail;
  count : l.count ≡ length (list_of l.watches l.literal);
  pending : Pending l.watches l.trail.literals (take l.head l.initial.trail.literals) l.literal l.at;
}

abbrev pub decreases-loop-at : goal.decreases-loop-at
decreases-loop-at l = l.count - l.at
