-- The derived equality of gates is equality.
use Rattle.std.proofs.Common.{◌≡◌, Bool, true}
use Rattle.std.proofs.lemmas.Bool.{false≢true, and_parts}
use Rattle.vg_cnf.proofs.Steps.{same_literal}
use Rattle.vg_blast.specs.declared.gate.Gate.{Gate}
use Rattle.vg_blast.specs.declared.gate.Gate.TheVariants as gates
use Rattle.vg_blast.specs.contracts.gate.GatePartialEq.TheImpl as gate

abbrev pub same_gate : Gate → Gate → Bool
same_gate = gate.eq-value.it

pub gate-same : (a b : Gate) → same_gate a b ≡ true → a ≡ b
gate-same (gates.And a b) (gates.And c d) e = let parts = and_parts _ _ e in (λ j. gates.And (same_literal a c parts.0 j) (same_literal b d parts.1 j))
gate-same (gates.Xor a b) (gates.Xor c d) e = let parts = and_parts _ _ e in (λ j. gates.Xor (same_literal a c parts.0 j) (same_literal b d parts.1 j))
gate-same _ _ e = absurd (false≢true e)
