use Rattle.std.proofs.Common.{◌≡◌, fold, map, take, drop, ◌+◌, ◌*◌}
use Rattle.arrayvec.specs.ArrayVec.{array_vec_len}
use Rattle.vg_abs.specs.Scopes.{scope_of}
use Rattle.vg_abs.specs.Expressions as expressions
use Rattle.vg_abs.specs.Expressions.{values_before}
use Rattle.vg_abs.proofs.evaluation.+evaluation.Given as goal

abbrev pub decreases-value : goal.decreases-value
decreases-value l = l.number * 10 + 5

abbrev pub decreases-value_by : goal.decreases-value_by
decreases-value_by l = l.number * 10 + 4

abbrev pub decreases-chain : goal.decreases-chain
decreases-chain l = l.number * 10 + 3

abbrev pub decreases-values : goal.decreases-values
decreases-values l = l.number * 10 + 3

abbrev pub decreases-part : goal.decreases-part
decreases-part l = l.before * 10 + 1

abbrev pub invariant-chain-loop-operation : goal.invariant-chain-loop-operation
invariant-chain-loop-operation l =
    fold (λ left operation. expressions.operate operation.operator left (values_before l.code l.number operation.operand (scope_of l.scope))) l.left
    (drop l.operation-index l.operations)
    ≡ fold (λ left operation. expressions.operate operation.operator left (values_before l.code l.number operation.operand (scope_of l.scope)))
    l.fn.first l.operations

abbrev pub invariant-values-loop-argument : goal.invariant-values-loop-argument
invariant-values-loop-argument l = record {
  values : l.names.items ≡ map (λ argument. values_before l.code l.number argument (scope_of l.scope)) (take l.argument-index l.arguments);
  counted : array_vec_len l.names ≡ l.argument-index;
}
