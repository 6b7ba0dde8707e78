use Rattle.std.proofs.Common.{◌∙◌, sym, arith, append_assoc, append-nil}
use Rattle.std.proofs.lemmas.List.{map_push}
use Rattle.vg_small.proofs.Cutting.{words-blank, words-end, words-step}
use Rattle.vg_small.proofs.CutLaws.{words_from-cut}
use Rattle.vg_small.proofs.words.cut.Goals as goal

pub loop-at-preserved-then-is_blank_byte : goal.loop-at-preserved-then-is_blank_byte
loop-at-preserved-then-is_blank_byte c =
    let before = c.loop-at.invariant in
    record { within = omega arith; rest = rw (words-blank c.args.text.now c.loop-at.at c.loop-at-test.true (sym c.if-is_blank_byte.ensures)) at before.rest }

pub loop-at-preserved : goal.loop-at-preserved
loop-at-preserved c =
    let before = c.loop-at.invariant in
    let step = words-step c.args.text.now c.loop-at.at c.word_end-end.result c.loop-at-test.true (sym c.if-is_blank_byte.ensures) c.word_end-end.ensures.end in
    record { within = c.word_end-end.ensures.within; rest = rw (c.in_ok-push.ensures.items, map_push, append_assoc) (rw step at before.rest) }

pub returns : goal.returns
returns c =
    let before = c.loop-at.invariant in
    let over = words-end c.args.text.now c.loop-at.at c.loop-at.at c.loop-at-test.false in
    let all = sym (append-nil _) ∙ (rw over at before.rest) in
    rw all (words_from-cut c.args.text.now 0)
