use Rattle.std.proofs.Common.{◌*◌, take}
use Rattle.std.specs.Prelude.{not, nat_eq}
use Rattle.vg_blast.specs.Circuits.{MakesBit, number}
use Rattle.vg_blast.proofs.shifting.any.Given as goal

-- whether one of those read so far is true
abbrev pub invariant-loop-at : goal.invariant-loop-at
invariant-loop-at l = MakesBit l.initial.gates l.gates (12 * l.at) l.some (λ v. not (nat_eq (number v (take l.at l.literals)) 0))
