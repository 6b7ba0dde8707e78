use Rattle.vg_rup.specs.Propagation.{Grows, open_clauses}
use Rattle.vg_rup.proofs.propagation.propagate.Given as goal

abbrev pub invariant-loop : goal.invariant-loop
invariant-loop l = Grows l.clauses l.initial.made l.made

-- the clauses without a true literal become fewer
abbrev pub decreases-loop : goal.decreases-loop
decreases-loop l = open_clauses l.made l.clauses
