use Rattle.vg_lpm.proofs.tests.a_made_table_answers_as_its_list.Given as goal

-- the ledger that the blank stands for
abbrev pub ghosts-first_wrong : goal.ghosts-first_wrong
ghosts-first_wrong g a = record { name = a.blank.name; parts = a.blank.parts }
