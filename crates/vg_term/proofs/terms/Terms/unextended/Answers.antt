use Rattle.vg_term.proofs.Compared.{narrower_left, narrower_right}
use Rattle.vg_term.proofs.terms.Terms.unextended.Goals as goal

pub returns-in_ok-y-in-Some-None-clause-narrower : goal.returns-in_ok-y-in-Some-None-clause-narrower
returns-in_ok-y-in-Some-None-clause-narrower c =
    narrower_right c.args.self.now c.make.new.self c.args.a c.args.b c.in-Some-None.x c.in_ok-y-in-Some-None.y c.width-in-Some-None.result
    c.in-Some.word c.make.ensures.stood c.make.ensures.made c.requires.first c.requires.second c.in-Some-None.ensures
    c.width-in-Some-None.ensures.width c.in-Some.ensures.word c.in_ok-y-in-Some-None.ensures.term

pub returns-in_ok-x-in-None-Some-clause-narrower : goal.returns-in_ok-x-in-None-Some-clause-narrower
returns-in_ok-x-in-None-Some-clause-narrower c =
    narrower_left c.args.self.now c.make-in-None-Some.new.self c.args.a c.args.b c.in_ok-x-in-None-Some.x c.in-None-Some.y c.width-in-None-Some.result
    c.in-Some-extended_word.word c.make-in-None-Some.ensures.stood c.make-in-None-Some.ensures.made c.requires.first c.requires.second
    c.in-None-Some.ensures
    c.width-in-None-Some.ensures.width c.in-Some-extended_word.ensures.word c.in_ok-x-in-None-Some.ensures.term
