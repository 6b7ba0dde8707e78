use Rattle.std.proofs.Common.{◌*◌, take}
use Rattle.std.specs.Prelude.{nat_eq}
use Rattle.vg_blast.specs.Circuits.{MakesBit, number}
use Rattle.vg_blast.proofs.comparing.equal.Given as goal

-- whether the bits read so far are equal
abbrev pub invariant-loop-at : goal.invariant-loop-at
invariant-loop-at l = MakesBit l.initial.gates l.gates (24 * l.at) l.same (λ v. nat_eq (number v (take l.at l.a)) (number v (take l.at l.b)))
