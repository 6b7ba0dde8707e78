use Rattle.vg_blast.specs.Assigning.{AreFilled}
use Rattle.vg_blast.proofs.assigning.fill.Given as goal

abbrev pub invariant-loop-k : goal.invariant-loop-k
invariant-loop-k l = AreFilled l.values l.terms l.words.items l.names l.k
