use Rattle.vg_dchain.proofs.tests.a_chain_of_three.Given as goal

-- the ledger that the blank stands for
abbrev pub ghosts-three : goal.ghosts-three
ghosts-three g a = record { name = a.blank.name; parts = a.blank.parts }
