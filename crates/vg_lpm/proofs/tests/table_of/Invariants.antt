use Rattle.std.proofs.Common.{◌≡◌, ◌≤◌, vec_len}
use Rattle.std.specs.List.{All}
use Rattle.vg_lpm.proofs.tests.table_of.Given as goal

abbrev pub invariant-loop-row : goal.invariant-loop-row
invariant-loop-row l = record {
  count : vec_len l.routes ≡ l.row-index;
  lengths : All (λ route. route.len ≤ 32) l.routes.items;
}
