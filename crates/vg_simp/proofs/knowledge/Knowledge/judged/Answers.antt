use Rattle.vg_simp.proofs.Judgements.{told_built, fixed_built}
use Rattle.vg_simp.proofs.knowledge.Knowledge.judged.Goals as goal

pub returns-in-Some : goal.returns-in-Some
returns-in-Some c =
    told_built c.args.terms.now c.build.new.self c.args.self.now.facts.items c.args.term c.in-Some.holds c.from_bool.result c.build.result
    c.requires.made c.build.ensures.made c.requires.known.facts c.in-Some.ensures c.from_bool.ensures.width c.from_bool.ensures.value
    c.build.ensures.folds

pub returns-in-Some-fixed : goal.returns-in-Some-fixed
returns-in-Some-fixed c =
    fixed_built c.args.terms.now c.build-in-Some-fixed.new.self c.args.self.now.facts.items c.args.term c.in-Some-fixed.value c.width.result
    c.from_low_bits-word.result c.build-in-Some-fixed.result c.requires.made c.build-in-Some-fixed.ensures.made c.requires.known.facts
    c.requires.stands c.in-Some-fixed.ensures
    c.width.ensures.width c.from_low_bits-word.ensures.width c.from_low_bits-word.ensures.value c.build-in-Some-fixed.ensures.folds
