use Rattle.vg_parts.proofs.steps.tests.a_slot_holds_what_was_put.Given as goal

-- the ledger that the blank stands for
abbrev pub ghosts-changed : goal.ghosts-changed
ghosts-changed g a = record { name = a.blank.name; parts = a.blank.parts }
