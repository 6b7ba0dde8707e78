use Rattle.std.proofs.Common.{◌≡◌, ◌≤◌, ◌^◌, max, drop}
use Rattle.vg_cmean.specs.Nesting.{deepest}
use Rattle.vg_cmean.proofs.nesting.deepest_listed.Given as goal

abbrev pub invariant-loop-n : goal.invariant-loop-n
invariant-loop-n l = (l.most ≤ 2 ^ 32) × (max l.most (deepest l.depths 1 (drop l.n-index l.nodes)) ≡ deepest l.depths 1 l.nodes)
