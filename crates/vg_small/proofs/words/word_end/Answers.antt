use Rattle.std.proofs.Common.{sym, refl, arith}
use Rattle.vg_small.proofs.Cutting.{word_len-joined, word_len-last}
use Rattle.vg_small.proofs.words.word_end.Goals as goal

pub loop-at-preserved : goal.loop-at-preserved
loop-at-preserved c =
    let text = c.args.text.now in
    let before = c.loop-at.invariant in
    let further = word_len-joined text c.loop-at.at before.within (sym c.loop-at-test.ensures.joined) in
    record {
      from = omega arith;
      within = c.loop-at-test.ensures.within refl;
      rest = omega (arith, further, before.rest);
    }

pub returns-clause-end : goal.returns-clause-end
returns-clause-end c =
    let text = c.args.text.now in
    let before = c.loop-at.invariant in
    let one = word_len-last text c.loop-at.at before.within (sym c.loop-at-test.ensures.joined) in
    omega (arith, one, before.rest)
