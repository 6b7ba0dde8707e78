use Rattle.std.proofs.Common.{◌≡◌}
use Rattle.vg_abs.specs.Opening as openings
use Rattle.vg_abs.proofs.start.zero_cells.Given as goal

abbrev pub invariant-loop-index : goal.invariant-loop-index
invariant-loop-index l = l.cells ≡ openings.zero_cells l.index l.fn.bytes
