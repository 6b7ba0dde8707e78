use Rattle.std.proofs.Common.{ap}
use Rattle.std.specs.Prelude.{bit_and}
use Rattle.vg_map.specs.Hash.{home_of}
use Rattle.vg_map.proofs.hash.Homes.of.Goals as goal

pub returns-clause-home : goal.returns-clause-home
unfolding home_of
returns-clause-home c = ap (λ h. bit_and h c.args.self.now.mask) c.hash.ensures
