use Rattle.std.proofs.Common.{◌≡◌, true, drop}
use Rattle.vg_abs.specs.Effects.{without}
use Rattle.vg_smean.specs.Expiring.{is_one_below}
use Rattle.vg_smean.proofs.effects.clear_times.Given as goal

abbrev pub invariant-loop-index : goal.invariant-loop-index
invariant-loop-index l =
    without true (is_one_below l.capacity (drop l.index-index l.indices)) l.times ≡ without true (is_one_below l.capacity l.indices) l.fn.times
