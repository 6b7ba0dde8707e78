use Rattle.std.proofs.Common.{[], subst}
use Rattle.vg_bits.specs.declared.word.Word.{Word}
use Rattle.vg_term.specs.Terms.{Needs, operation}
use Rattle.vg_term.specs.Folding.{IsKnown}
use Rattle.vg_term.specs.declared.known.Known.{Known}
use Rattle.vg_term.specs.declared.node.Op.TheVariants.{Const}
use Rattle.vg_term.proofs.Meanings.{folds_to_word, folds_to_itself}
use Rattle.vg_term.proofs.Building.{folds_builds}
use Rattle.vg_term.proofs.terms.Terms.simple.Goals as goal

pub returns-in-Some-Constant-clause-builds : goal.returns-in-Some-Constant-clause-builds
returns-in-Some-Constant-clause-builds c =
    folds_builds c.args.self.now c.make.new.self c.args.op c.args.parts.now c.make.result c.make.ensures.made
    (folds_to_word c.args.self.now c.make.new.self c.args.op c.args.parts.now c.in-Some-Constant.word c.make.result c.make.ensures.stood
    c.make.ensures.made c.requires.parts_stand
    (subst (λ (k : Known). IsKnown c.args.self.now c.args.op c.args.parts.now k) c.in-Some-Constant.field-0-is c.in-Some-Constant.ensures)
    (subst (λ (w : Word). Needs c.args.self.now c.make.new.self (operation c.args.self.now (Const w) []) c.make.result) c.in-Some-Constant.word-is
    c.make.ensures.term))

pub returns-in-None-clause-builds : goal.returns-in-None-clause-builds
returns-in-None-clause-builds c =
    folds_builds c.args.self.now c.make-in-None.new.self c.args.op c.args.parts.now c.make-in-None.result c.make-in-None.ensures.made
    (folds_to_itself c.args.self.now c.make-in-None.new.self c.args.op c.args.parts.now c.make-in-None.result c.make-in-None.ensures.made
    c.requires.parts_stand c.requires.fits c.make-in-None.ensures.term)
