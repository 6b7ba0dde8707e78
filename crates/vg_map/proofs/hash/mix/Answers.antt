use Rattle.std.proofs.Common.{rules}
use Rattle.vg_map.specs.Hash.{mixed}
use Rattle.vg_map.proofs.hash.mix.Goals as goal

pub returns : goal.returns
unfolding mixed
returns c = rw (c.fold-2.ensures, c.fold.ensures) search rules
