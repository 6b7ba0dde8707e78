use Rattle.std.proofs.Common.{◌≡◌, ◌∙◌, sym, arith}
use Rattle.vg_command.specs.Commands.{Files, words_in, words_after_texts}
use Rattle.vg_command.proofs.WordLists.{length-words_in, refuted}
use Rattle.vg_command.proofs.FileWords.{split_once, pieces}
use Rattle.vg_command.proofs.names.files_in.Goals as goal

pub returns-else-are_files-clause-none : goal.returns-else-are_files-clause-none
returns-else-are_files-clause-none c n splits =
    let ins = c.split_at.result.0.now in
    let outs = c.split_at.result.1.now in
    let words = pieces c.args.words.now c.conf-item.result c.log-item.result ins outs _ (omega arith) c.conf-item.is c.log-item.is
    c.split_at.ensures.front c.split_at.ensures.back in
    let here : Files = record {
      c = c.args.c.now;
      spec = c.args.spec.now;
      conf = c.as_str.result.now;
      log = c.as_str-2.result.now;
      ins =
          words_in ins;
      outs = words_in outs;
    } in
    let even = length-words_in ins ∙ c.if-ins-outs.false ∙ sym (length-words_in outs) in
    let same : words_after_texts here ≡ words_in c.args.words.now = rw (c.as_str.ensures.value, c.as_str-2.ensures.value) (sym words) in
    refuted c.are_files.ensures.1 c.if-are_files.false (split_once here n even (sym splits.c_is) (sym splits.spec_is) (same ∙ splits.words_are) splits.files)
