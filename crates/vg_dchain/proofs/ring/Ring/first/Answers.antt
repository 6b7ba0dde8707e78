use Rattle.std.proofs.Common.{◌∙◌, ℕ, Some, sym, ap}
use Rattle.vg_dchain.proofs.RingLemmas.{ring_first}
use Rattle.vg_dchain.proofs.ring.Ring.first.Goals as goal

pub returns-clause-value : goal.returns-clause-value
returns-clause-value g c = ring_first c.self.inside.next c.self.inside.bound c.self.inside.count c.args.self.now c.self.view_is c.requires
    ∙ ap (λ (i : ℕ). Some i) (sym c.get.ensures.value)
