use Rattle.std.proofs.Common.{◌∙◌, ap, sym}
use Rattle.std.specs.FinMap.{get}
use Rattle.vg_store.specs.RealLinks.{Parts, link_of}
use Rattle.vg_store.proofs.LinkSteps.{cell_seen}
use Rattle.vg_store.proofs.link.RealLink.cell.Goals as goal

pub returns : goal.returns
returns c = sym (ap (λ (p : Parts). get (link_of p).cells c.args.index) c.self.view_is)
    ∙ cell_seen (record { keys = c.self.inside.keys; ages = c.self.inside.ages; cells = c.self.inside.cells }) c.args.index ∙ c.lent_cell.ensures.value
