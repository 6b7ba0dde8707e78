use Rattle.std.proofs.Common.{refl}
use Rattle.vg_map.specs.Hash.{folded}
use Rattle.vg_map.proofs.hash.fold.Goals as goal

pub returns : goal.returns
unfolding folded
returns c = refl
