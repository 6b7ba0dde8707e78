use Rattle.std.proofs.Common.{rules, ◌≡◌, None, replicate}
use Rattle.vg_dchain.proofs.ChainLemmas.{chain_made}
use Rattle.vg_dchain.proofs.chain.Chain.new.Goals as goal

pub invariant_of-result : goal.invariant_of-result
invariant_of-result c =
    let none : c.in-Ok.times.items ≡ replicate c.args.range None = search rules in
    (chain_made c.args.range c.in_ok-by_age.by_age c.in_ok-spare.spare c.in-Ok.times.items c.in_ok-by_age.ensures c.in_ok-spare.ensures none).0

pub returns : goal.returns
returns c =
    let none : c.in-Ok.times.items ≡ replicate c.args.range None = search rules in
    (chain_made c.args.range c.in_ok-by_age.by_age c.in_ok-spare.spare c.in-Ok.times.items c.in_ok-by_age.ensures c.in_ok-spare.ensures none).1
