use Rattle.std.proofs.Common.{◌≡◌, ◌++◌, fold, drop, ◌+◌, ◌*◌}
use Rattle.arrayvec.specs.ArrayVec.{array_vec_len}
use Rattle.std.specs.Option.{option_map}
use Rattle.vg_abs.specs.Expressions.{operate}
use Rattle.vg_smean.specs.Scenes.{scene_of}
use Rattle.vg_smean.specs.Values.{values_before, values_by, both}
use Rattle.vg_smean.proofs.values.+values.Given as goal

abbrev pub decreases-value : goal.decreases-value
decreases-value l = l.number * 10 + 5

abbrev pub decreases-value_by : goal.decreases-value_by
decreases-value_by l = l.number * 10 + 4

abbrev pub decreases-chain : goal.decreases-chain
decreases-chain l = l.number * 10 + 3

abbrev pub decreases-arguments_of : goal.decreases-arguments_of
decreases-arguments_of l = l.number * 10 + 3

abbrev pub decreases-part : goal.decreases-part
decreases-part l = l.before * 10 + 1

abbrev pub invariant-chain-loop-operation : goal.invariant-chain-loop-operation
invariant-chain-loop-operation l =
    fold (λ left operation. both (operate operation.operator) left (values_before l.spec l.number operation.operand (scene_of l.scene))) l.left
    (drop l.operation-index l.operations)
    ≡ fold (λ left operation. both (operate operation.operator) left (values_before l.spec l.number operation.operand (scene_of l.scene)))
    l.fn.first l.operations

abbrev pub invariant-arguments_of-loop-argument : goal.invariant-arguments_of-loop-argument
invariant-arguments_of-loop-argument l = record {
  values : option_map (λ rest. l.made.items ++ rest) (values_by (values_before l.spec l.number) (drop l.argument-index l.arguments) (scene_of l.scene))
      ≡ values_by (values_before l.spec l.number) l.arguments (scene_of l.scene);
  counted : array_vec_len l.made ≡ l.argument-index;
}
