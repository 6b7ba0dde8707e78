use Rattle.std.proofs.Common.{◌≡◌, drop}
use Rattle.vg_ctyper.specs.Demands as demands
use Rattle.vg_ctyper.specs.Views.{known}
use Rattle.vg_ctyper.proofs.given.Given.without_parens.Given as goal

abbrev pub invariant-loop-node : goal.invariant-loop-node
invariant-loop-node l = demands.unwrapped (known l.self).tree (drop l._node-index l._node-items) l.part ≡ demands.without_parens (known l.self) l.n
