use Rattle.std.proofs.Common.{◌≡◌, fold, drop}
use Rattle.vg_abs.specs.Opening as openings
use Rattle.vg_abs.proofs.start.opening_cells.Given as goal

abbrev pub invariant-loop-fill : goal.invariant-loop-fill
invariant-loop-fill l = fold (openings.with_fill l.shape l.cell l.vector) l.cells (drop l.fill-index l.fills) ≡ openings.opening_cells l.shape l.fills
    l.vector l.cell l.fn.count
