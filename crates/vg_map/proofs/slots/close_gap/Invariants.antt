-- the gap is behind the slots that have been looked at, and the keys have kept their indices
use Rattle.std.proofs.Common.{◌-◌, length}
use Rattle.vg_map.proofs.Steps.{Closing}
use Rattle.vg_map.proofs.slots.close_gap.Given as goal

abbrev pub invariant-loop-at : goal.invariant-loop-at
invariant-loop-at l = Closing l.homes l.key_len l.fn.keys l.fn.indices l.keys l.indices l.gap l.at

abbrev pub decreases-loop-at : goal.decreases-loop-at
decreases-loop-at l = length l.indices - l.at
