use Rattle.std.proofs.Common.{◌≡◌, replicate}
use Rattle.vg_cscope.specs.Scopes as scopes
use Rattle.vg_cscope.proofs.standing.nobody.Given as goal

abbrev pub invariant-loop-count : goal.invariant-loop-count
invariant-loop-count l = l.standings.items ≡ replicate l._count scopes.alone
