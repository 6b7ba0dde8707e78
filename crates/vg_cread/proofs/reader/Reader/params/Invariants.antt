use Rattle.std.proofs.Common.{◌-◌, length}
use Rattle.vg_ctok.specs.declared.kinds.Sign.TheVariants as signs
use Rattle.vg_cread.specs.Forms.{◌⊳◌}
use Rattle.vg_cread.specs.Kinds.{is_sign}
use Rattle.vg_cread.specs.Grammar.{sign, params, param}
use Rattle.vg_cread.specs.Reading.{reads}
use Rattle.vg_cread.proofs.Loops.{Listing}
use Rattle.vg_cread.proofs.reader.Reader.params.Given as goal

abbrev pub invariant-loop-self : goal.invariant-loop-self
invariant-loop-self l = Listing l.src (is_sign signs.Comma) (sign signs.Comma ⊳ param) l.parts.items l.self (reads l.fn.src params l.fn.self)

abbrev pub decreases-loop-self : goal.decreases-loop-self
decreases-loop-self l = length l.src.toks.now - l.self.at
