use Rattle.vg_blast.specs.Adding.{Sums}
use Rattle.vg_blast.proofs.adding.sum.Given as goal

-- the sum of the bits read so far
abbrev pub invariant-loop-at : goal.invariant-loop-at
invariant-loop-at l = Sums l.initial.gates l.gates l.out.items l.carry l.a l.b l.at
