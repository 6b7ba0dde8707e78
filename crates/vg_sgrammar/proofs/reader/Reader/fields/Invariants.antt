use Rattle.std.proofs.Common.{◌-◌, length}
use Rattle.vg_sgrammar.specs.Kinds.{is_name}
use Rattle.vg_sgrammar.specs.Rules.{field, fields}
use Rattle.vg_sgrammar.specs.Reader.{reads}
use Rattle.vg_sgrammar.proofs.Steps.{Listing}
use Rattle.vg_sgrammar.proofs.reader.Reader.fields.Given as goal

abbrev pub invariant-loop-list : goal.invariant-loop-list
invariant-loop-list l = Listing l.src is_name field l.list.items l.self (reads l.fn.src fields l.fn.self)

abbrev pub decreases-loop-list : goal.decreases-loop-list
decreases-loop-list l = length l.src.toks.now - l.self.at
