use Rattle.std.proofs.Common.{◌≡◌, true, drop}
use Rattle.vg_abs.specs.Effects.{without}
use Rattle.vg_smean.specs.Expiring.{is_in_one}
use Rattle.vg_smean.proofs.effects.clear_keys.Given as goal

abbrev pub invariant-loop-index : goal.invariant-loop-index
invariant-loop-index l = without true (is_in_one l.cells (drop l.index-index l.indices)) l.keys ≡ without true (is_in_one l.cells l.indices) l.fn.keys
