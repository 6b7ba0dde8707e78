use Rattle.std.proofs.Common.{◌≡◌, ◌+◌, ◌<◌, ◌≤◌, ℕ, length, false}
use Rattle.std.specs.Prelude.{pos, slice_index_or}
use Rattle.vg_cnf.specs.Clauses.{holds}
use Rattle.vg_sat.proofs.walking.values_of.Given as goal

-- the variables looked at so far have their values, the others are false
abbrev pub invariant-loop-before : goal.invariant-loop-before
invariant-loop-before l = record {
  each : length l.values ≡ l.search.variables;
  value : (n : ℕ) → n < l.before → slice_index_or l.values n false ≡ holds l.search.trail (pos (n + 1));
  rest : (n : ℕ) → l.before ≤ n → slice_index_or l.values n false ≡ false;
}
