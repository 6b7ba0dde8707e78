use Rattle.std.proofs.Common.{sym, subst}
use Rattle.vg_plain.specs.LinkStates.{LinkState, CellsAgree}
use Rattle.vg_plain.proofs.Places.{cells_agree_as}
use Rattle.vg_plain.proofs.link.PlainLink.cells_agree.Goals as goal

pub returns : goal.returns
returns c = (
  λ yes. subst (λ (s : LinkState). CellsAgree s.link.cells c.args.other.now) c.self.view_is
      (cells_agree_as.to c.self.inside.cells.cells c.args.other.now (c.cells_told.ensures.0 yes)),
  λ agree. c.cells_told.ensures.1 (cells_agree_as.from c.self.inside.cells.cells c.args.other.now
      (subst (λ (s : LinkState). CellsAgree s.link.cells c.args.other.now) (sym c.self.view_is) agree)),
)
