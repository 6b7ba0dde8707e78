use Rattle.std.proofs.Common.{◌*◌, take}
use Rattle.std.specs.Prelude.{nat_lt}
use Rattle.vg_blast.specs.Circuits.{MakesBit, number}
use Rattle.vg_blast.proofs.comparing.less.Given as goal

-- whether the bits read so far are less
abbrev pub invariant-loop-at : goal.invariant-loop-at
invariant-loop-at l = MakesBit l.initial.gates l.gates (48 * l.at) l.borrowed (λ v. nat_lt (number v (take l.at l.a)) (number v (take l.at l.b)))
