use Rattle.std.proofs.Common.{ℕ, ◌<◌, Some, slice_get}
use Rattle.std.specs.FinMap.{get}
use Rattle.vg_abs.specs.Agreement.{BothTell}
use Rattle.vg_abs.specs.Answers.{listed_or_none}
use Rattle.vg_plain.specs.PlainTables.{joined}
use Rattle.vg_plain.proofs.telling.times_told.Given as goal

abbrev pub invariant-loop-i : goal.invariant-loop-i
invariant-loop-i l = (index : ℕ) → index < l.i → BothTell (Some (joined (slice_get l.times index))) (listed_or_none l.full (get l.table index))
