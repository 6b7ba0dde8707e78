use Rattle.std.proofs.Common.{◌+◌, ◌-◌, length}
use Rattle.vg_blast.proofs.Splits.{AreSplit}
use Rattle.vg_blast.proofs.disjuncts.disjuncts.Given as goal

-- what is taken apart so far
abbrev pub invariant-loop-at : goal.invariant-loop-at
invariant-loop-at l = AreSplit l.terms l.fn.id l.parts.items l.at

abbrev pub decreases-loop-at : goal.decreases-loop-at
decreases-loop-at l = 256 - (l.at + length l.parts.items)
