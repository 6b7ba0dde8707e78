use Rattle.std.proofs.Common.{◌≡◌, map, take}
use Rattle.vg_blast.specs.Facts.{literal_of}
use Rattle.vg_blast.proofs.terms.Circuit.literals.Given as goal

abbrev pub invariant-loop-part : goal.invariant-loop-part
invariant-loop-part l = l.clause.items ≡ map (literal_of l.self.lists) (take l.part-index l.parts)
