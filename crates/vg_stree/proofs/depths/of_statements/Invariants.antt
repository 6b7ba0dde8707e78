use Rattle.std.proofs.Common.{◌≡◌, ◌≤◌, drop}
use Rattle.std.specs.List.{All}
use Rattle.vg_stree.specs.Depths.{deepest_nesting, statement_depths, statement_depths_from}
use Rattle.vg_stree.proofs.depths.of_statements.Given as goal

abbrev pub invariant-loop-statement : goal.invariant-loop-statement
invariant-loop-statement l = record {
  depths : statement_depths_from l.code l.expressions l.known.items (drop l.statement-index l.statement-items) ≡ statement_depths l.code;
  within : All (λ depth. depth ≤ deepest_nesting) l.known.items;
}
