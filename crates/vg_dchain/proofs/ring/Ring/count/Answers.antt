use Rattle.std.proofs.Common.{length, sym, ap, ◌∙◌}
use Rattle.vg_dchain.proofs.LinkLemmas.{length-indices_after}
use Rattle.vg_dchain.proofs.ring.Ring.count.Goals as goal

pub returns : goal.returns
returns c = sym (length-indices_after c.self.inside.count c.self.inside.next c.self.inside.bound) ∙ ap (λ v. length v.order) c.self.view_is
