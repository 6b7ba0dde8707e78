use Rattle.std.proofs.Common.{◌≤◌}
use Rattle.vg_blast.specs.Circuits.{literals}
use Rattle.vg_blast.specs.State.{IsState}
use Rattle.vg_blast.proofs.terms.Circuit.of_terms.Given as goal

-- the terms so far are done
abbrev pub invariant-loop-at : goal.invariant-loop-at
invariant-loop-at l = IsState l.terms l.marks l.at l.circuit.gates l.circuit.lists l.circuit.names.items × (literals l.circuit.gates ≤ 16777216)
