use Rattle.std.proofs.Common.{◌≡◌, ◌<◌, ℕ, true}
use Rattle.vg_cmean.specs.Typings.{kind_at}
use Rattle.vg_cbounds.specs.Bounds.{is_counted}
use Rattle.vg_cbounds.proofs.counting.loops_are_counted.Given as goal

abbrev pub invariant-loop-n : goal.invariant-loop-n
invariant-loop-n l = (m : ℕ) → m < l.n → is_counted l.unit m (kind_at l.unit m) ≡ true
