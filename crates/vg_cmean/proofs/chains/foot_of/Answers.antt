use Rattle.std.proofs.Common.{rules, arith, ◌+◌, ◌<◌, ◌≤◌, ◌^◌}
use Rattle.vg_cmean.proofs.Links.{chain_short}
use Rattle.vg_cmean.proofs.chains.foot_of.Goals as goal

pub overflow_add-links : goal.overflow_add-links
overflow_add-links c =
    let short : c.loop-first.links + c.loop-first.node ≤ c.args.n = chain_short _ _ _ _ _ c.loop-first.invariant in
    let before : c.in-Some.first < c.loop-first.node = c.in-Some.ensures.before in
    let fits : c.loop-first.links + 1 < 2 ^ 32 = omega arith in search rules
