use Rattle.std.proofs.Common.{◌+◌, arith}
use Rattle.vg_term.proofs.Wires.{extended_joins, concat_joins}
use Rattle.vg_term.proofs.terms.Terms.joined.Goals as goal

pub returns-then-word-eq0-clause-folds : goal.returns-then-word-eq0-clause-folds
returns-then-word-eq0-clause-folds c =
    extended_joins c.args.self.now c.make.new.self c.args.high c.args.low c.in-Some.word _ c.make.result c.make.ensures.stood c.make.ensures.made
    c.requires.high c.requires.low c.in-Some.ensures.word c.if-word-eq0.true
    (λ j. c.width.ensures.width j + c.width-then-word-eq0.ensures.width j) (omega (
      arith,
      c.width.ensures.width,
      c.width-then-word-eq0.ensures.width,
      c.requires.fits,
    )) c.make.ensures.term

pub returns-clause-folds : goal.returns-clause-folds
returns-clause-folds c = concat_joins c.args.self.now c.make-2.new.self c.args.high c.args.low c.make-2.result c.make-2.ensures.made c.requires.high
    c.requires.low c.requires.fits c.make-2.ensures.term
