use Rattle.std.proofs.Common.{◌*◌, ◌%◌, ◌^◌, length, take}
use Rattle.vg_blast.specs.Circuits.{MakesWord, number}
use Rattle.vg_blast.proofs.multiplying.product.Given as goal

-- the product with the lowest bits
abbrev pub invariant-loop-at : goal.invariant-loop-at
invariant-loop-at l = MakesWord l.initial.gates l.gates (108 * length l.a * l.at) l.product.items (length l.a)
    (λ v. (number v (take l.at l.a) * number v l.b) % 2 ^ length l.a)
