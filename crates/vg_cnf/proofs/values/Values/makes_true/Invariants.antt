use Rattle.std.proofs.Common.{◌≡◌, drop}
use Rattle.vg_cnf.specs.Clauses.{makes_true}
use Rattle.vg_cnf.proofs.values.Values.makes_true.Given as goal

-- the literals that are still to be read decide
abbrev pub invariant-loop-literal : goal.invariant-loop-literal
invariant-loop-literal l = makes_true l.self (drop l.literal-index l.literals) ≡ makes_true l.self l.literals
