use Rattle.vg_store.proofs.chain.RealChain.free.Given as goal

-- the ledger that the blank stands for
abbrev pub ghosts-free : goal.ghosts-free
ghosts-free a = record { name = a.blank.name; parts = a.blank.parts }
