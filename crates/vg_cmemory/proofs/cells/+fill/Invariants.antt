use Rattle.std.proofs.Common.{length}
use Rattle.vg_cmemory.proofs.cells.+fill.Given as goal

abbrev pub decreases-fill : goal.decreases-fill
decreases-fill l = length l.bytes.now
