use Rattle.std.proofs.Common.{◌≡◌, drop}
use Rattle.vg_cnf.specs.Refutations.{first_unfollowed}
use Rattle.vg_rup.proofs.Checking.{counted_from}
use Rattle.vg_rup.proofs.checker.check_refutation.Given as goal

-- the steps so far followed: the first that doesn't is among the others, which come after those
abbrev pub invariant-loop-at : goal.invariant-loop-at
invariant-loop-at l = first_unfollowed l.clauses.clauses l.proof ≡ counted_from l.at (first_unfollowed l.known (drop l.at l.proof))
