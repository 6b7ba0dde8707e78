use Rattle.std.proofs.Common.{◌<◌, ◌∙◌, ℕ, Option, length, is_some, sym, ap, subst}
use Rattle.vg_dchain.specs.ChainState.{ChainState}
use Rattle.vg_dchain.proofs.ChainLemmas.{chain_reads}
use Rattle.vg_dchain.proofs.chain.Chain.is_allocated.Goals as goal

pub returns : goal.returns
returns c =
    let within : c.args.index < length c.self.inside.times.items = subst (λ (w : ChainState). c.args.index < w.range) (sym c.self.view_is) c.requires in
    c.is_some.ensures ∙ ap (λ (o : Option ℕ). is_some o)
    (sym (chain_reads c.self.inside.by_age c.self.inside.spare c.self.inside.times.items c.self.inside.newest c.args.index c.args.self.now
    c.index.result.now c.self.view_is c.self.invariant within c.index.ensures))
