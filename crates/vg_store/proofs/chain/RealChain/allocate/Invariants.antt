use Rattle.vg_store.proofs.chain.RealChain.allocate.Given as goal

-- the ledger that the blank stands for
abbrev pub ghosts-allocate : goal.ghosts-allocate
ghosts-allocate a = record { name = a.blank.name; parts = a.blank.parts }
