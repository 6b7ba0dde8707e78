use Rattle.vg_dchain.proofs.tests.many_calls_are_those_on_plain_lists.Given as goal

-- the ledger that the blank stands for
abbrev pub ghosts-run : goal.ghosts-run
ghosts-run g a = record { name = a.blank.name; parts = a.blank.parts }
