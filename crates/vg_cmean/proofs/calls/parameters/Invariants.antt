use Rattle.std.proofs.Common.{◌≡◌, ◌-◌, length}
use Rattle.vg_cmean.specs.Views.{seen, IsSame}
use Rattle.vg_cmean.specs.Arguments.{set_below}
use Rattle.vg_cmean.proofs.calls.parameters.Given as goal

abbrev pub invariant-loop-k : goal.invariant-loop-k
invariant-loop-k l =
    IsSame l.initial.world l.world
    × (set_below l.unit l.params l.arguments (length l.arguments - l.k) (seen l.world) ≡ set_below l.unit l.params l.arguments (length l.arguments)
    (seen l.initial.world))
