use Rattle.vg_smean.proofs.words.+set_bytes.Given as goal

abbrev pub decreases-set_bytes : goal.decreases-set_bytes
decreases-set_bytes l = l.count
