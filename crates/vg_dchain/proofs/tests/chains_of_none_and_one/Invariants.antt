use Rattle.vg_dchain.proofs.tests.chains_of_none_and_one.Given as goal

-- the ledger that the blank stands for
abbrev pub ghosts-none_or_one : goal.ghosts-none_or_one
ghosts-none_or_one g a = record { name = a.blank.name; parts = a.blank.parts }
