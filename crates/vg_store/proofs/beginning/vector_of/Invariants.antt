use Rattle.std.proofs.Common.{ℕ, ◌≡◌, ◌<◌, length, slice_get, replicate, false}
use Rattle.std.specs.FinMap.{get}
use Rattle.vg_store.proofs.beginning.vector_of.Given as goal

abbrev pub invariant-loop-i : goal.invariant-loop-i
invariant-loop-i l = record {
  counted : length l.made.cells ≡ l.fn.count;
  sized : l.made.size ≡ l.fn.size;
  free : l.made.lent ≡ replicate l.fn.count false;
  copied : (j : ℕ) → j < l.i → slice_get l.made.cells j ≡ get l.table j;
}
