use Rattle.std.proofs.Common.{◌≡◌, drop}
use Rattle.vg_cscope.specs.Scopes as scopes
use Rattle.vg_cscope.proofs.standing.tell_all.Given as goal

abbrev pub invariant-loop-part : goal.invariant-loop-part
invariant-loop-part l = scopes.told l.within (scopes.all_see l.seen (drop l.part-index l.parts)) l.standings.items ≡ scopes.told l.within
    (scopes.all_see l.seen l.parts) l.fn.standings.items
