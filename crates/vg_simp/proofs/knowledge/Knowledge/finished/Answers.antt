use Rattle.vg_simp.proofs.Sames.{grown_none, simplifies_on}
use Rattle.vg_simp.proofs.knowledge.Knowledge.finished.Goals as goal

pub returns-clause-simplifies : goal.returns-clause-simplifies
returns-clause-simplifies c =
    simplifies_on c.args.terms.now c.args.terms.now c.judged.new.terms c.args.self.now.facts.items c.args.id c.replaced-other.result c.judged.result
    c.requires.known.facts c.requires.stands (grown_none c.args.terms.now c.requires.made) c.replaced-other.ensures c.judged.ensures
