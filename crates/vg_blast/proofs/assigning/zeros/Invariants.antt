use Rattle.vg_blast.specs.Assigning.{AreZeros}
use Rattle.vg_blast.proofs.assigning.zeros.Given as goal

abbrev pub invariant-loop-at : goal.invariant-loop-at
invariant-loop-at l = AreZeros l.terms l.at l.words.items
