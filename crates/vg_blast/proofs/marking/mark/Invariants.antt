use Rattle.std.proofs.Common.{◌-◌}
use Rattle.vg_blast.specs.Marking.{AreMarks}
use Rattle.vg_blast.proofs.marking.mark.Given as goal

-- the highest terms have been followed
abbrev pub invariant-loop-done : goal.invariant-loop-done
invariant-loop-done l = AreMarks l.follow l.terms l.from (l.count - l.done) l.marks.items
