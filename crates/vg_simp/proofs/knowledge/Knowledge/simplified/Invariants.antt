use Rattle.std.proofs.Common.{◌≡◌, length}
use Rattle.vg_term.specs.Wiring.{Grown}
use Rattle.vg_simp.specs.Passing.{AreSame, AreConstants}
use Rattle.vg_simp.proofs.knowledge.Knowledge.simplified.Given as goal

abbrev pub invariant-loop-at : goal.invariant-loop-at
invariant-loop-at l = Grown l.fn.terms l.terms × AreSame l.terms l.self.facts.items l.others.items
    × AreConstants l.fn.terms l.terms l.marks.items l.others.items × (length l.others.items ≡ l.at)
