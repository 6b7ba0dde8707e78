use Rattle.std.proofs.Common.{◌≡◌, replicate}
use Rattle.vg_cscope.proofs.table.zeros.Given as goal

abbrev pub invariant-loop-count : goal.invariant-loop-count
invariant-loop-count l = l.zeros.items ≡ replicate l._count 0
