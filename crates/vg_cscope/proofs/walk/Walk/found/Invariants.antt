use Rattle.std.proofs.Common.{◌≡◌, drop}
use Rattle.vg_cscope.specs.Names as names
use Rattle.vg_cscope.specs.Views.{walked}
use Rattle.vg_cscope.proofs.walk.Walk.found.Given as goal

abbrev pub invariant-loop-node : goal.invariant-loop-node
invariant-loop-node l = names.looked_up (walked l.self) l.wanted (drop l._node-index l._node-items) l.seen ≡ names.found (walked l.self) l.wanted l.n
