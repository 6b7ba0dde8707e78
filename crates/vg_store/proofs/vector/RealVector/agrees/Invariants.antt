use Rattle.std.proofs.Common.{ℕ, ◌<◌, slice_get}
use Rattle.std.specs.FinMap.{get}
use Rattle.vg_abs.specs.Agreement.{BothTell}
use Rattle.vg_store.proofs.vector.RealVector.agrees.Given as goal

abbrev pub invariant-loop-i : goal.invariant-loop-i
invariant-loop-i l = (index : ℕ) → index < l.i → BothTell (slice_get l.self.cells index) (get l.other index)
