use Rattle.vg_simp.proofs.knowledge.Knowledge.+range.Given as goal

abbrev pub decreases-range : goal.decreases-range
decreases-range l = l.depth
