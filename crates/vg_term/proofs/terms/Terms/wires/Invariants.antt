use Rattle.std.proofs.Common.{◌≡◌, length}
use Rattle.vg_term.specs.Terms.{listed}
use Rattle.vg_term.specs.Wiring.{AllCarry}
use Rattle.vg_term.proofs.terms.Terms.wires.Given as goal

abbrev pub invariant-loop-at : goal.invariant-loop-at
invariant-loop-at l = AllCarry l.self l.op (listed l.parts) l.wires l.at × (length l.wires ≡ 64)
