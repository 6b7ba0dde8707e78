use Rattle.vg_store.proofs.routes.RealRoutes.lookup.Given as goal

-- the ledger that the blank stands for
abbrev pub ghosts-lookup : goal.ghosts-lookup
ghosts-lookup a = record { name = a.blank.name; parts = a.blank.parts }
