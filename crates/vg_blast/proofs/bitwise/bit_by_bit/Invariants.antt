use Rattle.std.proofs.Common.{◌*◌, take}
use Rattle.vg_blast.specs.Circuits.{MakesWord, number}
use Rattle.vg_blast.specs.Bitwise.{number_by}
use Rattle.vg_blast.proofs.bitwise.bit_by_bit.Given as goal

-- the bits made so far
abbrev pub invariant-loop-at : goal.invariant-loop-at
invariant-loop-at l = MakesWord l.initial.gates l.gates (12 * l.at) l.out.items l.at (λ v. number_by l.op (number v (take l.at l.a)) (number v (take l.at l.b)))
