use Rattle.std.proofs.Common.{ℕ, ◌≡◌, ◌<◌, Some, None, slice_get}
use Rattle.vg_plain.proofs.slots.first_free.Given as goal

abbrev pub invariant-loop-place : goal.invariant-loop-place
invariant-loop-place g l = record {
  counted : l.i ≡ l.place-index;
  used : (j : ℕ) → j < l.i → slice_get l.places j ≡ Some None → ⊥;
}
