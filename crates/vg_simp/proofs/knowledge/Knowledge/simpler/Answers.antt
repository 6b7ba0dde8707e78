use Rattle.vg_simp.proofs.Sames.{simplifies_on}
use Rattle.vg_simp.proofs.Constants.{keeps_on}
use Rattle.vg_simp.proofs.Knowing.{known_later}
use Rattle.vg_simp.proofs.knowledge.Knowledge.simpler.Goals as goal

pub finished-requires-clause-known : goal.finished-requires-clause-known
finished-requires-clause-known c = known_later c.args.terms.now c.rebuilt.new.terms c.args.self.now c.requires.made
    c.in_ok-other.ensures.simplifies.grown.grows c.requires.known

pub returns-clause-simplifies : goal.returns-clause-simplifies
returns-clause-simplifies c =
    simplifies_on c.args.terms.now c.rebuilt.new.terms c.finished.new.terms c.args.self.now.facts.items c.args.id c.in_ok-other.other
    c.finished.result c.requires.known.facts c.requires.stands c.in_ok-other.ensures.simplifies.grown c.in_ok-other.ensures.simplifies.same
    c.finished.ensures.simplifies

pub returns-clause-constant : goal.returns-clause-constant
returns-clause-constant c _ = keeps_on c.args.terms.now c.rebuilt.new.terms c.finished.new.terms c.args.others.now c.args.id c.in_ok-other.other
    c.finished.result c.in_ok-other.ensures.constant c.finished.ensures.constant
