use Rattle.std.proofs.Common.{◌≡◌, drop}
use Rattle.vg_cscope.specs.Scopes as scopes
use Rattle.vg_cscope.proofs.standing.tell_row.Given as goal

abbrev pub invariant-loop-part : goal.invariant-loop-part
invariant-loop-part l = scopes.told l.within (scopes.in_row l.tree l.seen (drop l.part-index l.parts)) l.standings.items ≡ scopes.told l.within
    (scopes.in_row l.tree l.fn.first l.parts) l.fn.standings.items
