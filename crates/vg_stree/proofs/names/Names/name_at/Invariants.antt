use Rattle.std.proofs.Common.{◌≡◌, drop}
use Rattle.vg_stree.specs.Names.{seen, spelled_at}
use Rattle.vg_stree.proofs.names.Names.name_at.Given as goal

abbrev pub invariant-loop-named : goal.invariant-loop-named
invariant-loop-named l = spelled_at (seen (drop l.named-index l.named-items)) l.at ≡ spelled_at (seen l.named-items) l.at
