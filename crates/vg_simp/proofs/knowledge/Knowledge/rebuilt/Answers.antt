use Rattle.vg_term.specs.Terms.{listed, width_at}
use Rattle.vg_simp.proofs.Constants.{built_constant}
use Rattle.vg_simp.proofs.knowledge.Knowledge.rebuilt.Goals as goal

pub returns-in-Op-clause-constant : goal.returns-in-Op-clause-constant
returns-in-Op-clause-constant c =
    built_constant c.requires.made c.args.self.now.facts.items c.args.others.now c.args.id c.in-Op.op c.in-Op.parts
    (width_at c.args.terms.now c.args.id) c.in-Op.ensures.node c.requires.long c.requires.same c.built.new.terms (listed c.entries-simpler.result)
    c.built.result c.entries-simpler.ensures c.built.ensures.folds.grows c.requires.stands c.built.ensures.folded
