use Rattle.vg_plain.proofs.Expiries.{Expired}
use Rattle.vg_plain.proofs.expiry.expire_places.Given as goal

abbrev pub invariant-loop-i : goal.invariant-loop-i
invariant-loop-i l = Expired l.before l.fn.indices.items l.indices.items l.keys.cells l.fn.times.items l.times.items l.cells.cells l.freed l.i
