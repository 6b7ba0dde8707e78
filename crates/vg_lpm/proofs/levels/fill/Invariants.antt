use Rattle.vg_lpm.proofs.Filling.{Filled}
use Rattle.vg_lpm.proofs.levels.fill.Given as goal

abbrev pub invariant-loop-i : goal.invariant-loop-i
invariant-loop-i l = Filled l.initial.entries.items l.entries.items l.start l.i l.word
