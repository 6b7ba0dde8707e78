use Rattle.std.proofs.Common.{◌∙◌, sym}
use Rattle.vg_term.specs.Rules.{before_zero, before_one}
use Rattle.vg_term.proofs.RuleLaws.{before_zero_right, before_one_right}
use Rattle.vg_term.proofs.KnownLaws.{known_before, known_before_ones}
use Rattle.vg_term.proofs.terms.Terms.known_before_constant.Goals as goal

pub returns-then-word-eq0 : goal.returns-then-word-eq0
returns-then-word-eq0 c = known_before c.placed.ensures.made c.args.op c.in_ok-simple.simple c.placed.result c.args.a c.args.b c.in_ok-word.word 0
    (before_zero c.args.op) c.requires.first c.requires.alike c.in_ok-word.ensures.word c.if-word-eq0.true
    (sym c.before_zero.ensures ∙ c.in_ok-simple.was) (λ p _ r. before_zero_right c.args.op p r) c.placed.ensures.places

pub returns-in-Some : goal.returns-in-Some
returns-in-Some c = known_before_ones c.placed-in-Some.ensures.made c.args.op c.in-Some.simple c.placed-in-Some.result c.args.a c.args.b
    c.in_ok-word.word c.all_ones.result.value c.requires.first c.requires.alike c.in_ok-word.ensures.word c.if-word-all_ones.true
    c.all_ones.ensures.value (sym c.before_ones.ensures ∙ c.in-Some.is) c.placed-in-Some.ensures.places

pub returns-then-word-eq1 : goal.returns-then-word-eq1
returns-then-word-eq1 c = known_before c.placed-then-word-eq1.ensures.made c.args.op c.in_ok-simple-2.simple c.placed-then-word-eq1.result c.args.a
    c.args.b c.in_ok-word.word 1 (before_one c.args.op) c.requires.first c.requires.alike c.in_ok-word.ensures.word c.if-word-eq1.true
    (sym c.before_one.ensures ∙ c.in_ok-simple-2.was) (λ p _ r. before_one_right c.args.op p r) c.placed-then-word-eq1.ensures.places
