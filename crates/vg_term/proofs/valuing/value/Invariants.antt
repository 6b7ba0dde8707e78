use Rattle.std.proofs.Common.{◌≡◌, ◌+◌, ◌-◌, ◌≤◌, length}
use Rattle.vg_term.specs.Value.{AreReckoned}
use Rattle.vg_term.proofs.valuing.value.Given as goal

abbrev pub invariant-loop-done : goal.invariant-loop-done
invariant-loop-done l = (l.last ≡ l.fn.term.0) × (l.done ≤ l.last + 1) × (length l.terms ≤ length l.room)
    × AreReckoned l.terms l.assign.words.items l.room l.done

abbrev pub decreases-loop-done : goal.decreases-loop-done
decreases-loop-done l = l.last + 1 - l.done
