use Rattle.vg_blast.specs.Adding.{Differs}
use Rattle.vg_blast.proofs.adding.difference.Given as goal

-- the difference of the bits read so far
abbrev pub invariant-loop-at : goal.invariant-loop-at
invariant-loop-at l = Differs l.initial.gates l.gates l.out.items l.borrowed l.a l.b l.at
