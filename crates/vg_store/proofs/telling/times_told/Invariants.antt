use Rattle.std.proofs.Common.{ℕ, ◌<◌, Some}
use Rattle.std.specs.FinMap.{get}
use Rattle.vg_abs.specs.Agreement.{BothTell}
use Rattle.vg_abs.specs.Answers.{listed_or_none}
use Rattle.vg_dchain.specs.ChainState.{time_at}
use Rattle.vg_store.proofs.telling.times_told.Given as goal

abbrev pub invariant-loop-index : goal.invariant-loop-index
invariant-loop-index l = (index : ℕ) → index < l.index → BothTell (Some (time_at l.ages.entries index)) (listed_or_none l.full (get l.table index))
