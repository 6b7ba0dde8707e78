use Rattle.std.proofs.Common.{arith}
use Rattle.vg_term.proofs.Compared.{extended_word_of}
use Rattle.vg_term.proofs.terms.Terms.extended_word.Goals as goal

pub returns-then-sext-word : goal.returns-then-sext-word
returns-then-sext-word c =
    record {
      word = extended_word_of c.args.self.now c.args.term c.args.width c.in_ok-word.word c.extract-low.result c.sext.result
          c.in_ok-word.ensures.word (omega (arith, c.if-width-word.false)) c.extract-low.ensures.width c.sext.ensures.value c.if-sext-word.true;
    }
