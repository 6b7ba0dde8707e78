use Rattle.vg_term.proofs.Meanings.{folds_to_word, folded_to_word}
use Rattle.vg_term.proofs.Building.{folds_builds}
use Rattle.vg_term.proofs.terms.Terms.folded.Goals as goal

pub returns-in-Some-clause-builds : goal.returns-in-Some-clause-builds
returns-in-Some-clause-builds c =
    folds_builds c.args.self.now c.make.new.self c.args.op c.args.parts.now c.make.result c.make.ensures.made
    (folds_to_word c.args.self.now c.make.new.self c.args.op c.args.parts.now c.in-Some.word c.make.result c.make.ensures.stood c.make.ensures.made
    c.requires.parts_stand c.in-Some.ensures.answer c.make.ensures.term)

pub returns-in-Some-clause-folded : goal.returns-in-Some-clause-folded
returns-in-Some-clause-folded c _ = folded_to_word c.args.self.now c.make.new.self c.args.op c.args.parts.now c.in-Some.word c.make.result
    c.in-Some.ensures.answer c.make.ensures.term
