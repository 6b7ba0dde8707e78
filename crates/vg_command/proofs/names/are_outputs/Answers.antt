use Rattle.std.proofs.Common.{◌∷◌, refl, arith}
use Rattle.std.proofs.lemmas.Bool.{false≢true}
use Rattle.vg_command.specs.Commands.{words_in, IsName, IsNoneOf}
use Rattle.vg_command.proofs.WordLists.{text_at, before-more, all-before, all-at, there, refuted}
use Rattle.vg_command.proofs.names.are_outputs.Goals as goal
use Rattle.vg_command.proofs.names.are_outputs.Goals.{then-not-is_name-via-then-not-is_name, then-not-is_name-via-else-not-is_name+then-not-is_no_input}

pub returns-then-not-is_name : goal.returns-then-not-is_name
returns-then-not-is_name c =
    let n = c.args.n.now in
    let inputs = n.c.now ∷ n.spec.now ∷ n.conf.now ∷ words_in n.ins.now in
    let at = text_at n.outs.now c.loop-out.out-index c.out-item.result c.as_str-name.result.now (omega arith) c.out-item.is c.as_str-name.ensures.value in (
      (λ is. absurd (false≢true is)),
      (λ all. absurd (elim c.then-not-is_name.branch [
        | then-not-is_name-via-then-not-is_name w ↦
            refuted c.is_name.ensures.1 w.if-not-is_name.true (all-at IsName n.outs.now c.loop-out.out-index c.as_str-name.result.now (omega arith) at all.0)
        | then-not-is_name-via-else-not-is_name+then-not-is_no_input w ↦
            refuted w.is_no_input.ensures.1 w.if-not-is_no_input.true (all-at (IsNoneOf inputs) n.outs.now c.loop-out.out-index
            c.as_str-name.result.now (omega arith) at all.1)
      ])),
    )

pub loop-out-preserved : goal.loop-out-preserved
loop-out-preserved c =
    let n = c.args.n.now in
    let inputs = n.c.now ∷ n.spec.now ∷ n.conf.now ∷ words_in n.ins.now in
    let at = text_at n.outs.now c.loop-out.out-index c.out-item.result c.as_str-name.result.now (omega arith) c.out-item.is c.as_str-name.ensures.value in
    record {
      named = before-more IsName (words_in n.outs.now) c.loop-out.out-index c.loop-out.invariant.named
          (there IsName (words_in n.outs.now) c.loop-out.out-index c.as_str-name.result.now at (c.is_name.ensures.0 c.if-not-is_name.false));
      own = before-more (IsNoneOf inputs) (words_in n.outs.now) c.loop-out.out-index c.loop-out.invariant.own
          (there (IsNoneOf inputs) (words_in n.outs.now) c.loop-out.out-index c.as_str-name.result.now at
          (c.is_no_input.ensures.0 c.if-not-is_no_input.false));
    }

pub returns : goal.returns
returns c =
    let n = c.args.n.now in
    let inputs = n.c.now ∷ n.spec.now ∷ n.conf.now ∷ words_in n.ins.now in (
      (λ is. (
        all-before IsName n.outs.now c.loop-out.out-index (omega arith) c.loop-out.invariant.named,
        all-before (IsNoneOf inputs) n.outs.now c.loop-out.out-index (omega arith) c.loop-out.invariant.own,
      )),
      (λ all. refl),
    )
