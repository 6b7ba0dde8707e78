use Rattle.std.proofs.Common.{sym, subst}
use Rattle.vg_vector.specs.Cells.{CellList}
use Rattle.vg_plain.specs.LinkStates.{CellsAgree}
use Rattle.vg_plain.specs.PlainTables.{cell_table}
use Rattle.vg_plain.proofs.Places.{cells_agree_as}
use Rattle.vg_plain.proofs.vector.PlainVector.agrees.Goals as goal

pub returns : goal.returns
returns c = (
  λ yes. subst (λ (v : CellList). CellsAgree (cell_table 0 v.cells) c.args.other.now) c.self.view_is
      (cells_agree_as.to c.self.inside.cells.cells c.args.other.now (c.cells_told.ensures.0 yes)),
  λ agree. c.cells_told.ensures.1 (cells_agree_as.from c.self.inside.cells.cells c.args.other.now
      (subst (λ (v : CellList). CellsAgree (cell_table 0 v.cells) c.args.other.now) (sym c.self.view_is) agree)),
)
