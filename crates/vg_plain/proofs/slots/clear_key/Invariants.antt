use Rattle.vg_plain.proofs.KeySlots.{Cleared}
use Rattle.vg_plain.proofs.slots.clear_key.Given as goal

abbrev pub invariant-loop-i : goal.invariant-loop-i
invariant-loop-i l = Cleared l.fn.indices.items l.indices.items l.keys.cells l.key l.i
