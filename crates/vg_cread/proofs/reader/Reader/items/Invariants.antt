use Rattle.std.proofs.Common.{◌-◌, length}
use Rattle.vg_cread.specs.Kinds.{any_token}
use Rattle.vg_cread.specs.Grammar.{items, item}
use Rattle.vg_cread.specs.Reading.{reads}
use Rattle.vg_cread.proofs.Loops.{Listing}
use Rattle.vg_cread.proofs.reader.Reader.items.Given as goal

abbrev pub invariant-loop-parts : goal.invariant-loop-parts
invariant-loop-parts l = Listing l.src any_token item l.parts.items l.self (reads l.fn.src items l.fn.self)

abbrev pub decreases-loop-parts : goal.decreases-loop-parts
decreases-loop-parts l = length l.src.toks.now - l.self.at
