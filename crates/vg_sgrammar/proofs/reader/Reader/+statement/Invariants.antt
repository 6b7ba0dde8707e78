use Rattle.std.proofs.Common.{◌+◌, ◌-◌, ◌*◌, length}
use Rattle.vg_forms.specs.Forms.{Inner}
use Rattle.vg_sgrammar.specs.Kinds.{begins_statement}
use Rattle.vg_sgrammar.specs.Rules.{Statement, statements}
use Rattle.vg_sgrammar.specs.Reader.{reads}
use Rattle.vg_sgrammar.proofs.Steps.{Listing}
use Rattle.vg_sgrammar.proofs.reader.Reader.+statement.Given as goal

abbrev pub decreases-statement : goal.decreases-statement
decreases-statement l = 50 * l.src.room

abbrev pub decreases-block : goal.decreases-block
decreases-block l = 50 * l.src.room

abbrev pub decreases-statements : goal.decreases-statements
decreases-statements l = 50 * l.src.room + 1

abbrev pub decreases-whole_block : goal.decreases-whole_block
decreases-whole_block l = 50 * l.src.room + 2

abbrev pub decreases-otherwise : goal.decreases-otherwise
decreases-otherwise l = 50 * l.src.room + 1

abbrev pub decreases-if_statement : goal.decreases-if_statement
decreases-if_statement l = 50 * l.src.room + 2

abbrev pub decreases-find_statement : goal.decreases-find_statement
decreases-find_statement l = 50 * l.src.room + 2

abbrev pub decreases-add_statement_on : goal.decreases-add_statement_on
decreases-add_statement_on l = 50 * l.src.room + 2

abbrev pub decreases-lookup_statement : goal.decreases-lookup_statement
decreases-lookup_statement l = 50 * l.src.room + 2

abbrev pub decreases-link_statement : goal.decreases-link_statement
decreases-link_statement l = 50 * l.src.room + 3

abbrev pub decreases-whole_statement : goal.decreases-whole_statement
decreases-whole_statement l = 50 * l.src.room + 4

abbrev pub invariant-statements-loop-parts : goal.invariant-statements-loop-parts
invariant-statements-loop-parts l = Listing l.src begins_statement (Inner Statement) l.parts.items l.self (reads l.fn.src statements l.fn.self)

abbrev pub decreases-statements-loop-parts : goal.decreases-statements-loop-parts
decreases-statements-loop-parts l = length l.src.toks.now - l.self.at
