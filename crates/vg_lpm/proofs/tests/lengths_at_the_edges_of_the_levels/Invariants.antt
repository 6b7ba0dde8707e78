use Rattle.vg_lpm.proofs.tests.lengths_at_the_edges_of_the_levels.Given as goal

-- the ledger that the blank stands for
abbrev pub ghosts-first_wrong : goal.ghosts-first_wrong
ghosts-first_wrong g a = record { name = a.blank.name; parts = a.blank.parts }
