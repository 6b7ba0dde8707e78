use Rattle.std.proofs.Common.{◌≡◌, ℕ, Bool, ◌+◌, ◌-◌, ◌<◌, ◌≤◌, get_or, length}
use Rattle.std.specs.Int.{bit_at}
use Rattle.vg_bits.specs.Words.{bit}
use Rattle.vg_term.specs.declared.wire.Wire.{Wire}
use Rattle.vg_term.specs.declared.wire.Wire.TheVariants.{Fixed}
use Rattle.vg_term.proofs.wire.fixed_word.Given as goal

abbrev pub invariant-loop-at : goal.invariant-loop-at
invariant-loop-at l =
    (l.at ≤ l.to) × (l.to ≤ 64) × (l.to ≤ length l.wires) × (l.from + l.word.width ≡ l.at)
    × ((k : ℕ) (d : Wire) (holds : Bool) → l.from + k < l.at → get_or l.wires (l.from + k) d ≡ Fixed holds → bit_at l.word.value k ≡ bit holds)

abbrev pub decreases-loop-at : goal.decreases-loop-at
decreases-loop-at l = l.to - l.at
