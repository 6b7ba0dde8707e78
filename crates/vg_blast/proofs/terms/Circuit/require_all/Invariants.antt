use Rattle.std.proofs.Common.{◌≡◌, ◌≤◌}
use Rattle.vg_blast.specs.Circuits.{literals}
use Rattle.vg_blast.specs.Facts.{Requires}
use Rattle.vg_blast.proofs.terms.Circuit.require_all.Given as goal

-- the asserted ones so far are required
abbrev pub invariant-loop-at : goal.invariant-loop-at
invariant-loop-at l =
    Requires l.terms l.initial.self.names.items l.asserted l.at l.initial.self.gates l.self.gates
    × (l.self.lists ≡ l.initial.self.lists)
    × (l.self.names.items ≡ l.initial.self.names.items)
    × (literals l.self.gates ≤ 16777216)
