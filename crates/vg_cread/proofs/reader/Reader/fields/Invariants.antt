use Rattle.std.proofs.Common.{◌-◌, length}
use Rattle.vg_cread.specs.Kinds.{begins_base}
use Rattle.vg_cread.specs.Grammar.{fields, field}
use Rattle.vg_cread.specs.Reading.{reads}
use Rattle.vg_cread.proofs.Loops.{Listing}
use Rattle.vg_cread.proofs.reader.Reader.fields.Given as goal

abbrev pub invariant-loop-parts : goal.invariant-loop-parts
invariant-loop-parts l = Listing l.src begins_base field l.parts.items l.self (reads l.fn.src fields l.fn.self)

abbrev pub decreases-loop-parts : goal.decreases-loop-parts
decreases-loop-parts l = length l.src.toks.now - l.self.at
