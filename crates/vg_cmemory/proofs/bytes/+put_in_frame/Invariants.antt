use Rattle.vg_cmemory.proofs.bytes.+put_in_frame.Given as goal

abbrev pub decreases-put_in_frame : goal.decreases-put_in_frame
decreases-put_in_frame l = l.size
