use Rattle.std.proofs.Common.{◌≡◌, ◌+◌, ◌-◌}
use Rattle.vg_simp.specs.Marking.{AreMarks}
use Rattle.vg_simp.proofs.marking.reached.Given as goal

-- the highest terms have handed their marks down
abbrev pub invariant-loop-done : goal.invariant-loop-done
invariant-loop-done l = AreMarks l.terms l.fn.goal (l.fn.goal.0 + 1 - l.done) l.marks.items × (l.last ≡ l.fn.goal.0)
