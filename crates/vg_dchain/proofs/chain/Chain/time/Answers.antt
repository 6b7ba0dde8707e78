use Rattle.std.proofs.Common.{rules, ◌≡◌, ◌<◌, ◌∙◌, ℕ, true, Option, Some, length, is_some, sym, ap, subst}
use Rattle.vg_dchain.specs.ChainState.{time_at}
use Rattle.vg_dchain.proofs.ChainLemmas.{chain_held, chain_reads, Some-unwrap_or}
use Rattle.vg_dchain.proofs.chain.Chain.time.Goals as goal

pub index-requires : goal.index-requires
index-requires c =
    let within : c.args.index < length c.self.inside.times.items =
    (chain_held c.self.inside.by_age c.self.inside.spare c.self.inside.times.items c.self.inside.newest c.args.index c.args.self.now
    c.self.view_is c.self.invariant c.requires).within in
    search rules

pub returns : goal.returns
returns c =
    let within : c.args.index < length c.self.inside.times.items =
    (chain_held c.self.inside.by_age c.self.inside.spare c.self.inside.times.items c.self.inside.newest c.args.index c.args.self.now
    c.self.view_is c.self.invariant c.requires).within in
    let read : time_at c.args.self.now.entries c.args.index ≡ c.index.result.now = chain_reads c.self.inside.by_age c.self.inside.spare
    c.self.inside.times.items c.self.inside.newest c.args.index c.args.self.now c.index.result.now c.self.view_is c.self.invariant within
    c.index.ensures in
    let some : is_some c.index.result.now ≡ true = subst (λ (o : Option ℕ). is_some o ≡ true) read c.requires in
    read ∙ Some-unwrap_or c.index.result.now 0 some ∙ ap (λ (t : ℕ). Some t) (sym c.unwrap_or.ensures)
