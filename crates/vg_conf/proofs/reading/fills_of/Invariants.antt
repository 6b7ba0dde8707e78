use Rattle.std.proofs.Common.{◌≡◌, [], drop}
use Rattle.vg_conf.specs.Reading as reading
use Rattle.vg_conf.proofs.reading.fills_of.Given as goal

abbrev pub invariant-loop-cell : goal.invariant-loop-cell
invariant-loop-cell l = reading.fills_from l.spec l.numbers l.fills.items (drop l.cell-index l.cells) ≡ reading.fills_from l.spec l.numbers [] l.cells
