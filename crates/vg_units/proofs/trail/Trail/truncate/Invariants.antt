use Rattle.std.proofs.Common.{◌≡◌, take, length}
use Rattle.vg_units.proofs.trail.Trail.truncate.Given as goal

abbrev pub invariant-loop-self : goal.invariant-loop-self
invariant-loop-self l = record {
  variables : l.self.variables ≡ l.initial.self.variables;
  rest : take l.len l.self.literals ≡ take l.len l.initial.self.literals;
}

abbrev pub decreases-loop-self : goal.decreases-loop-self
decreases-loop-self l = length l.self.literals
