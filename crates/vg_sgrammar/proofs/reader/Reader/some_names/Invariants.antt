use Rattle.std.proofs.Common.{◌-◌, length}
use Rattle.vg_stok.specs.declared.kinds.Sign.TheVariants as signs
use Rattle.vg_sgrammar.specs.Kinds.{is_sign}
use Rattle.vg_sgrammar.specs.Rules.{next_name, some_names}
use Rattle.vg_sgrammar.specs.Reader.{reads}
use Rattle.vg_sgrammar.proofs.Steps.{Listing}
use Rattle.vg_sgrammar.proofs.reader.Reader.some_names.Given as goal

abbrev pub invariant-loop-list : goal.invariant-loop-list
invariant-loop-list l = Listing l.src (is_sign signs.Comma) next_name l.list.items l.self (reads l.fn.src some_names l.fn.self)

abbrev pub decreases-loop-list : goal.decreases-loop-list
decreases-loop-list l = length l.src.toks.now - l.self.at
