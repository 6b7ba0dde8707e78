use Rattle.std.proofs.Common.{◌≡◌, sym, subst, arith, slice_get, false, true}
use Rattle.std.specs.Prelude.{unwrap_or}
use Rattle.vg_vector.specs.Cells.{CellList}
use Rattle.vg_plain.proofs.ListPlaces.{lent_inside}
use Rattle.vg_plain.proofs.vector.PlainVector.cell.Goals as goal

pub cell-requires : goal.cell-requires
cell-requires c =
    let below = lent_inside c.self.inside.cells.lent c.args.index (subst (λ (v : CellList). unwrap_or (slice_get v.lent c.args.index) false ≡ true)
    (sym c.self.view_is) c.requires) in
    omega (arith, below, c.self.invariant)
