use Rattle.std.proofs.Common.{◌≡◌, take}
use Rattle.vg_rup.proofs.known.Known.new.Given as goal

abbrev pub invariant-loop-at : goal.invariant-loop-at
invariant-loop-at l = l.known ≡ take l.at l.clauses.clauses
