use Rattle.std.proofs.Common.{◌*◌, ◌%◌, ◌^◌, length, take}
use Rattle.vg_blast.specs.Circuits.{MakesWord, number}
use Rattle.vg_blast.proofs.shifting.shifted_left.Given as goal

-- moved by the lowest bits
abbrev pub invariant-loop-step : goal.invariant-loop-step
invariant-loop-step l = MakesWord l.initial.gates l.gates (36 * length l.a * l.step) l.moved.items (length l.a)
    (λ v. (number v l.a * 2 ^ number v (take l.step l.by)) % 2 ^ length l.a)
