-- the slots passed have other keys, and an empty one is still ahead
use Rattle.std.proofs.Common.{◌+◌, ◌≤◌, ◌<◌, ◌-◌, length, drop}
use Rattle.vg_map.specs.Slots.{slots_of, slot, full_slots}
use Rattle.vg_map.specs.Search.{IsOther}
use Rattle.vg_map.proofs.slots.find.Given as goal

abbrev pub invariant-loop-at : goal.invariant-loop-at
invariant-loop-at l = record {
  from : l.from ≤ l.at;
  room : l.at + full_slots (drop l.at l.indices) < length l.indices;
  passed : (i : _) → l.from ≤ i → i < l.at → IsOther l.key (slot (slots_of (length l.key) l.keys l.indices) i);
}

abbrev pub decreases-loop-at : goal.decreases-loop-at
decreases-loop-at l = length l.indices - l.at
