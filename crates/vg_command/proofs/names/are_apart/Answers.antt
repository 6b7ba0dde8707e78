use Rattle.std.proofs.Common.{arith}
use Rattle.std.proofs.lemmas.Bool.{false≢true}
use Rattle.vg_command.proofs.WordLists.{text_at, none_of-later, apart-next, refuted}
use Rattle.vg_command.proofs.names.are_apart.Goals as goal

pub returns-then-not-is_none_of : goal.returns-then-not-is_none_of
returns-then-not-is_none_of c =
    let at = text_at c.args.words.now c.loop-i.i c.index-words-i.result c.as_str.result.now (omega arith) c.index-words-i.is c.as_str.ensures.value in
    let some = rw c.split_at.ensures.back at c.is_none_of.ensures in (
      (λ is. absurd (false≢true is)),
      (λ apart. absurd (refuted some.1 c.if-not-is_none_of.true (none_of-later c.args.words.now c.loop-i.i c.as_str.result.now (omega arith) at
          apart))),
    )

pub loop-i-preserved : goal.loop-i-preserved
loop-i-preserved c =
    let at = text_at c.args.words.now c.loop-i.i c.index-words-i.result c.as_str.result.now (omega arith) c.index-words-i.is c.as_str.ensures.value in
    let none = rw c.split_at.ensures.back at c.is_none_of.ensures in
    apart-next c.args.words.now c.loop-i.i c.as_str.result.now at (none.0 c.if-not-is_none_of.false) c.loop-i.invariant
