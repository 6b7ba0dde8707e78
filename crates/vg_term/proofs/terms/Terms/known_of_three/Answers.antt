use Rattle.std.proofs.Common.{◌∙◌, sym}
use Rattle.vg_term.proofs.KnownLaws.{known_bit}
use Rattle.vg_term.proofs.terms.Terms.known_of_three.Goals as goal

pub returns-then-zero-eq0 : goal.returns-then-zero-eq0
returns-then-zero-eq0 c = known_bit c.width.ensures.made c.args.op c.args.condition c.args.a c.args.b c.in_ok-one.one c.in_ok-zero.zero
    c.requires.condition c.requires.fits c.in_ok-one.ensures.word c.in_ok-zero.ensures.word (sym c.width.ensures.width ∙ c.if-width-eq1.true)
    c.if-one-eq1.true c.if-zero-eq0.true
