use Rattle.std.proofs.Common.{ℕ, ◌<◌}
use Rattle.vg_abs.specs.Agreement.{AgreeAt}
use Rattle.vg_plain.specs.PlainStates.{state_of}
use Rattle.vg_store.specs.RealStates.{plainly}
use Rattle.vg_store.proofs.agreement.first_difference.Given as goal

abbrev pub invariant-loop-i : goal.invariant-loop-i
invariant-loop-i l = (object : ℕ) → object < l.i → AgreeAt (state_of (plainly l.objects)) l.state object
