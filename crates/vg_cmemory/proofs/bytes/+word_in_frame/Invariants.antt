use Rattle.std.proofs.Common.{length}
use Rattle.vg_cmemory.proofs.bytes.+word_in_frame.Given as goal

abbrev pub decreases-word_in_frame : goal.decreases-word_in_frame
decreases-word_in_frame l = length l.bytes.now
