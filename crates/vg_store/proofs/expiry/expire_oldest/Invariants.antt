use Rattle.vg_store.proofs.Expiring.{Expiring}
use Rattle.vg_store.proofs.expiry.expire_oldest.Given as goal

abbrev pub invariant-loop-freed : goal.invariant-loop-freed
invariant-loop-freed l = Expiring l.before l.fn.keys l.fn.ages l.cells l.keys l.ages l.freed
