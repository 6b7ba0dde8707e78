use Rattle.std.proofs.Common.{◌≡◌, drop}
use Rattle.vg_cscope.specs.Scopes as scopes
use Rattle.vg_cscope.proofs.standing.seen_behind.Given as goal

abbrev pub invariant-loop-part : goal.invariant-loop-part
invariant-loop-part l = scopes.seen_behind l.tree l.seen (drop l.part-index l.parts) ≡ scopes.seen_behind l.tree l.fn.first l.parts
