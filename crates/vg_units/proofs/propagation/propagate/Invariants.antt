use Rattle.std.proofs.Common.{◌≤◌, ◌-◌, ◌+◌, ◌*◌, length, take}
use Rattle.vg_units.specs.Propagating.{Advances, AreWatched}
use Rattle.vg_units.proofs.propagation.propagate.Given as goal

abbrev pub invariant-loop-at : goal.invariant-loop-at
invariant-loop-at l = record {
  advances : Advances l.initial.watches l.watches l.initial.trail l.trail;
  within : l.at ≤ length l.trail.literals;
  watched : AreWatched l.watches l.trail.literals (take l.at l.trail.literals);
}

abbrev pub decreases-loop-at : goal.decreases-loop-at
decreases-loop-at l = 2 * l.trail.variables + 2 - l.at
