use Rattle.std.proofs.Common.{◌≡◌, ◌≤◌, drop}
use Rattle.std.specs.List.{All}
use Rattle.vg_stree.specs.Depths.{deepest_nesting, expression_depths, expression_depths_from}
use Rattle.vg_stree.proofs.depths.of_expressions.Given as goal

abbrev pub invariant-loop-expression : goal.invariant-loop-expression
invariant-loop-expression l = record {
  depths : expression_depths_from l.code l.known.items (drop l.expression-index l.expression-items) ≡ expression_depths l.code;
  within : All (λ depth. depth ≤ deepest_nesting) l.known.items;
}
