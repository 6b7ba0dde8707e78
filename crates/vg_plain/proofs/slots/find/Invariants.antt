use Rattle.std.proofs.Common.{ℕ, ◌<◌}
use Rattle.vg_plain.proofs.KeySlots.{NotAt}
use Rattle.vg_plain.proofs.slots.find.Given as goal

abbrev pub invariant-loop-i : goal.invariant-loop-i
invariant-loop-i l = (j : ℕ) → j < l.i → NotAt l.indices l.keys.cells l.key j
