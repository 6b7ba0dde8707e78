use Rattle.std.proofs.Common.{◌-◌, length}
use Rattle.vg_sgrammar.proofs.Steps.{Declaring}
use Rattle.vg_sgrammar.proofs.reader.Reader.declarations.Given as goal

abbrev pub invariant-loop-self : goal.invariant-loop-self
invariant-loop-self l = Declaring l.src l.self l.fn.self

abbrev pub decreases-loop-self : goal.decreases-loop-self
decreases-loop-self l = length l.src.toks.now - l.self.at
