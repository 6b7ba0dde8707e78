use Rattle.vg_plain.proofs.Places.{cells_agree_as}
use Rattle.vg_store.proofs.link.RealLink.cells_agree.Goals as goal

pub returns : goal.returns
returns c = rw (← c.self.view_is) (
  λ yes. cells_agree_as.to c.self.inside.cells.cells c.args.other.now (c.agrees.ensures.0 yes),
  λ agree. c.agrees.ensures.1 (cells_agree_as.from c.self.inside.cells.cells c.args.other.now agree),
)
