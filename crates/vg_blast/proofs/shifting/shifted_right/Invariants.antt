use Rattle.std.proofs.Common.{◌*◌, length, take}
use Rattle.vg_blast.specs.Circuits.{number}
use Rattle.vg_blast.specs.Shifting.{ShiftsRight}
use Rattle.vg_blast.proofs.shifting.shifted_right.Given as goal

-- moved by the lowest bits
abbrev pub invariant-loop-step : goal.invariant-loop-step
invariant-loop-step l = ShiftsRight l.initial.gates l.gates (36 * length l.a * l.step) l.moved.items l.fill l.a (λ v. number v (take l.step l.by))
