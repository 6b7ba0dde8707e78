use Rattle.std.proofs.Common.{ℕ, ◌≡◌, ◌<◌, List, None}
use Rattle.std.specs.FinMap.{get}
use Rattle.vg_plain.proofs.KeySlots.{NotAt}
use Rattle.vg_plain.proofs.telling.list_all.Given as goal

abbrev pub invariant-loop-i : goal.invariant-loop-i
invariant-loop-i l = (j : ℕ) → j < l.i → (key : List ℕ) → get l.table key ≡ None → NotAt l.indices l.keys.cells key j
