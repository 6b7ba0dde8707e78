use Rattle.vg_store.proofs.chain.RealChain.expire_one.Given as goal

-- the ledger that the blank stands for
abbrev pub ghosts-expire_one : goal.ghosts-expire_one
ghosts-expire_one a = record { name = a.blank.name; parts = a.blank.parts }
