use Rattle.std.proofs.Common.{◌≡◌, take}
use Rattle.vg_stree.specs.Names.{seen}
use Rattle.vg_stree.proofs.names.Names.copy.Given as goal

abbrev pub invariant-loop-named : goal.invariant-loop-named
invariant-loop-named l = l.copied ≡ seen (take l.named-index l.named-items)
