use Rattle.vg_cmemory.proofs.bytes.+put.Given as goal

abbrev pub decreases-put : goal.decreases-put
decreases-put l = l.size
