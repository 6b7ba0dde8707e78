use Rattle.std.proofs.Common.{sym}
use Rattle.vg_command.proofs.WordLists.{refuted}
use Rattle.vg_command.proofs.NumberWords.{amiss, written, unread}
use Rattle.vg_command.proofs.numbers.number_in.Goals as goal

pub returns-then-begins_amiss-clause-none : goal.returns-then-begins_amiss-clause-none
returns-then-begins_amiss-clause-none c =
    let begins = rw c.as_bytes.ensures.value at c.begins_amiss.ensures in
    amiss c.args.word.now (begins.0 c.if-begins_amiss.true)

pub returns-in-Ok-clause-written : goal.returns-in-Ok-clause-written
returns-in-Ok-clause-written c =
    let begins = rw c.as_bytes.ensures.value at c.begins_amiss.ensures in
    written c.args.word.now (refuted begins.1 c.if-begins_amiss.false) c.in-Ok.n c.in-Ok.ensures.value.0.0 (sym c.in-Ok.ensures.value.0.1)

pub returns-in-Err-clause-none : goal.returns-in-Err-clause-none
returns-in-Err-clause-none c =
    let begins = rw c.as_bytes.ensures.value at c.begins_amiss.ensures in
    unread c.args.word.now (refuted begins.1 c.if-begins_amiss.false) c.in-Err.ensures.value.0
