use Rattle.std.proofs.Common.{◌*◌, length}
use Rattle.vg_blast.specs.Dividing.{Divides}
use Rattle.vg_blast.proofs.multiplying.divided.Given as goal

-- the highest bits divided
abbrev pub invariant-loop-done : goal.invariant-loop-done
invariant-loop-done l = Divides l.initial.gates l.gates (180 * length l.a * l.done) l.quotient.items l.remainder.items l.a l.b l.done
