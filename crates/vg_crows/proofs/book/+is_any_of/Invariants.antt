use Rattle.std.proofs.Common.{length}
use Rattle.vg_crows.proofs.book.+is_any_of.Given as goal

abbrev pub decreases-is_any_of : goal.decreases-is_any_of
decreases-is_any_of l = length l.cells.now
