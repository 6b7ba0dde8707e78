use Rattle.vg_store.specs.RealLinks.{Parts}
use Rattle.vg_store.proofs.LinkSteps.{free_time, handed_seen}
use Rattle.vg_store.proofs.link.RealLink.allocate.Goals as goal

pub returns-clause-free : goal.returns-clause-free
returns-clause-free c =
    let was : Parts = record { keys = c.self.inside.keys; ages = c.self.inside.ages; cells = c.self.inside.cells } in
    rw (← c.self.view_is) (free_time was c.allocate.result c.allocate.ensures.free)

pub returns-clause-handed : goal.returns-clause-handed
returns-clause-handed c =
    let was : Parts = record { keys = c.self.inside.keys; ages = c.self.inside.ages; cells = c.self.inside.cells } in
    rw (← c.self.view_is) (handed_seen was c.allocate.new.self c.args.now c.allocate.result c.allocate.ensures.free c.allocate.ensures.allocated)
