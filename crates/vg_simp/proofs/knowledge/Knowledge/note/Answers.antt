use Rattle.std.proofs.Common.{List, subst, sym}
use Rattle.vg_term.specs.declared.node.TermId.{TermId}
use Rattle.vg_simp.specs.Knowing.{IsTold}
use Rattle.vg_simp.proofs.Knowing.{known_later, told_later}
use Rattle.vg_simp.proofs.Telling.{told_constant}
use Rattle.vg_simp.proofs.knowledge.Knowledge.note.Goals as goal

pub replace-requires-clause-known : goal.replace-requires-clause-known
replace-requires-clause-known c = known_later c.args.terms.now c.build.new.self c.args.self.now c.requires.made c.in_ok-constant.ensures.folds.grows
    c.requires.known

pub replace-requires-clause-same : goal.replace-requires-clause-same
replace-requires-clause-same c =
    told_constant c.build.new.self c.args.self.now.facts.items c.args.literal.term c.in_ok-constant.constant c.args.literal.holds c.from_bool.result
    (told_later c.args.terms.now c.build.new.self c.args.self.now.facts.items c.requires.made c.in_ok-constant.ensures.folds.grows
    c.requires.known.facts c.args.literal c.requires.told)
    c.from_bool.ensures.width c.from_bool.ensures.value c.in_ok-constant.ensures.folds.means

pub relate-requires-clause-told : goal.relate-requires-clause-told
relate-requires-clause-told c =
    subst (λ (fs : List TermId). IsTold c.build.new.self fs c.args.literal) (sym c.in_ok-replace.ensures.facts)
    (told_later c.args.terms.now c.build.new.self c.args.self.now.facts.items c.requires.made c.in_ok-constant.ensures.folds.grows
    c.requires.known.facts c.args.literal c.requires.told)
