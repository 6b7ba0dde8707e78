use Rattle.std.proofs.Common.{◌≡◌, ◌++◌, drop}
use Rattle.std.specs.Option.{option_map}
use Rattle.vg_smean.specs.Scenes.{scene_of}
use Rattle.vg_smean.specs.Values.{values_of}
use Rattle.vg_smean.proofs.keys.values_told.Given as goal

abbrev pub invariant-loop-expression : goal.invariant-loop-expression
invariant-loop-expression l =
    option_map (λ rest. l.values.items ++ rest) (values_of l.spec (scene_of l.scene) (drop l.expression-index l.expressions))
    ≡ values_of l.spec (scene_of l.scene) l.expressions
