use Rattle.std.proofs.Common.{take_all, map, ap, ◌∙◌}
use Rattle.vg_blast.specs.Facts.{literal_of}
use Rattle.vg_blast.proofs.Clauses.{literals_over}
use Rattle.vg_blast.proofs.terms.Circuit.literals.Goals as goal

pub returns-clause-over : goal.returns-clause-over
returns-clause-over c =
    literals_over c.args.self.now.gates c.args.self.now.lists c.args.parts.now c.loop-part.clause.items c.requires
    (c.loop-part.invariant ∙ ap (map (literal_of c.args.self.now.lists)) (take_all c.loop-part.part-index c.args.parts.now c.loop-part-test.false))
