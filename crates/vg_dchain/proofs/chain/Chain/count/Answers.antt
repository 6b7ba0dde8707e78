use Rattle.std.proofs.Common.{subst}
use Rattle.vg_dchain.specs.ChainState.{ChainState, IsLawful}
use Rattle.vg_dchain.proofs.ChainLemmas.{chain_lawful}
use Rattle.vg_dchain.proofs.chain.Chain.count.Goals as goal

pub returns-clause-lawful : goal.returns-clause-lawful
returns-clause-lawful c = subst (λ (w : ChainState). IsLawful w) c.self.view_is (chain_lawful c.self.inside.by_age c.self.inside.spare
    c.self.inside.times.items c.self.inside.newest c.self.invariant)
