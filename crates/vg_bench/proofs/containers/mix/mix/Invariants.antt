use Rattle.vg_bench.proofs.containers.mix.mix.Given as goal

-- the ledger that the blank stands for
abbrev pub ghosts-packets : goal.ghosts-packets
ghosts-packets a = record { name = a.blank.name; parts = a.blank.parts }
