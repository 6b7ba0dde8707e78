use Rattle.std.proofs.Common.{◌≡◌, ◌+◌, ◌++◌}
use Rattle.vg_blast.specs.State.{new_literals, new_names}
use Rattle.vg_blast.proofs.terms.input.Given as goal

-- the variables made so far
abbrev pub invariant-loop-at : goal.invariant-loop-at
invariant-loop-at l =
    (l.gates ≡ record l.initial.gates { variables = l.initial.gates.variables + l.at })
    × (l.word.items ≡ new_literals l.initial.gates.variables l.at)
    × (l.names.items ≡ l.initial.names.items ++ new_names l.id l.initial.gates.variables l.at)
