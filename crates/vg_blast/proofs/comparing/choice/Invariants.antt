use Rattle.std.proofs.Common.{◌*◌, take, cond}
use Rattle.vg_blast.specs.Circuits.{MakesWord, truth, number}
use Rattle.vg_blast.proofs.comparing.choice.Given as goal

-- the bits chosen so far
abbrev pub invariant-loop-at : goal.invariant-loop-at
invariant-loop-at l = MakesWord l.initial.gates l.gates (36 * l.at) l.out.items l.at (λ v. cond (truth v l.condition) (number v (take l.at l.a))
    (number v (take l.at l.b)))
