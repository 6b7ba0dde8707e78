use Rattle.std.proofs.Common.{◌+◌, ◌-◌, ◌*◌, length}
use Rattle.vg_cread.specs.Kinds.{begins_piece}
use Rattle.vg_cread.specs.Grammar.{pieces, piece}
use Rattle.vg_cread.specs.Reading.{reads}
use Rattle.vg_cread.proofs.Loops.{Listing}
use Rattle.vg_cread.proofs.reader.Reader.+statement.Given as goal

abbrev pub decreases-statement : goal.decreases-statement
decreases-statement l = 10 * l.src.room

abbrev pub decreases-piece : goal.decreases-piece
decreases-piece l = 10 * l.src.room + 1

abbrev pub decreases-otherwise : goal.decreases-otherwise
decreases-otherwise l = 10 * l.src.room + 1

abbrev pub decreases-pieces : goal.decreases-pieces
decreases-pieces l = 10 * l.src.room + 2

abbrev pub decreases-block : goal.decreases-block
decreases-block l = 10 * l.src.room + 3

abbrev pub decreases-for_statement : goal.decreases-for_statement
decreases-for_statement l = 10 * l.src.room + 3

abbrev pub decreases-if_statement : goal.decreases-if_statement
decreases-if_statement l = 10 * l.src.room + 3

abbrev pub decreases-whole_statement : goal.decreases-whole_statement
decreases-whole_statement l = 10 * l.src.room + 6

abbrev pub invariant-pieces-loop-parts : goal.invariant-pieces-loop-parts
invariant-pieces-loop-parts l = Listing l.src begins_piece piece l.parts.items l.self (reads l.fn.src pieces l.fn.self)

abbrev pub decreases-pieces-loop-parts : goal.decreases-pieces-loop-parts
decreases-pieces-loop-parts l = length l.src.toks.now - l.self.at
