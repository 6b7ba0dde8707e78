use Rattle.std.proofs.Common.{rules, ◌≡◌, ◌+◌, ◌∙◌, replicate}
use Rattle.vg_dchain.proofs.RingLemmas.{ring_new}
use Rattle.vg_dchain.proofs.ring.Ring.new.Goals as goal

pub invariant_of-result : goal.invariant_of-result
invariant_of-result c =
    let next : c.in-Ok.next.items ≡ replicate (c.args.bound + 1) c.args.bound = search rules in
    let previous : c.in-Ok-vec.previous.items ≡ replicate (c.args.bound + 1) c.args.bound = search rules in
    ring_new c.new.result c.new-2.result c.args.bound (c.new.ensures ∙ next) (c.new-2.ensures ∙ previous)
