use Rattle.vg_store.proofs.chain.RealChain.rejuvenate.Given as goal

-- the ledger that the blank stands for
abbrev pub ghosts-rejuvenate : goal.ghosts-rejuvenate
ghosts-rejuvenate a = record { name = a.blank.name; parts = a.blank.parts }
