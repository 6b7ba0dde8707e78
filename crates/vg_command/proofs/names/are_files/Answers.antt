use Rattle.std.proofs.Common.{◌≢◌, ◌∙◌, length, sym, arith}
use Rattle.std.proofs.lemmas.Bool.{false≢true, eqb-false}
use Rattle.vg_command.specs.Commands.{words_in}
use Rattle.vg_command.proofs.WordLists.{length-words_in, none_of-outs, none_of-front, none_of-back, refuted}
use Rattle.vg_command.proofs.names.are_files.Goals as goal
use Rattle.vg_command.proofs.names.are_files.Goals.{then-not-is_no_input-via-then-not-is_no_input}
use Rattle.vg_command.proofs.names.are_files.Goals.{then-not-is_no_input-via-else-not-is_no_input+then-not-is_none_of}

pub returns-then-not-is_no_input : goal.returns-then-not-is_no_input
returns-then-not-is_no_input c =
    let n = c.args.n.now in (
      (λ is. absurd (false≢true is)),
      (λ all. absurd (elim c.then-not-is_no_input.branch [
        | then-not-is_no_input-via-then-not-is_no_input w ↦
            refuted c.is_no_input.ensures.1 w.if-not-is_no_input.true (none_of-front n.c.now n.spec.now n.conf.now (words_in n.ins.now)
            (words_in n.outs.now) n.log.now all.own_log)
        | then-not-is_no_input-via-else-not-is_no_input+then-not-is_none_of w ↦
            refuted w.is_none_of.ensures.1 w.if-not-is_none_of.true (none_of-back n.c.now n.spec.now n.conf.now (words_in n.ins.now)
            (words_in n.outs.now) n.log.now all.own_log)
      ])),
    )

pub returns-then-are_outputs : goal.returns-then-are_outputs
returns-then-are_outputs c =
    let n = c.args.n.now in
    let some : length n.ins.now ≢ 0 = eqb-false (length n.ins.now) 0 (sym c.is_empty.ensures ∙ c.if-is_empty.false) in
    let named = c.are_names.ensures.0 c.if-not-are_names.false in
    let outs = c.are_outputs.ensures.0 c.if-are_outputs.true in (
      (λ is. record {
        ports = length-words_in n.ins.now ∙ c.requires ∙ sym (length-words_in n.outs.now);
        some = omega (arith, some, length-words_in n.ins.now);
        most = omega (arith, length-words_in n.ins.now);
        c = named.0;
        spec = named.1;
        log = named.2;
        outs = outs.0;
        own_log = none_of-outs n.c.now n.spec.now n.conf.now (words_in n.ins.now) (words_in n.outs.now) n.log.now
            (c.is_no_input.ensures.0 c.if-not-is_no_input.false) (c.is_none_of.ensures.0 c.if-not-is_none_of.false);
        own_outs = outs.1;
        apart = c.are_apart.ensures.0 is;
      }),
      (λ all. c.are_apart.ensures.1 all.apart),
    )
