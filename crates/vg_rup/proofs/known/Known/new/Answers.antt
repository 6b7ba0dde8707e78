use Rattle.std.proofs.Common.{[], ◌∷◌, ◌++◌, sym, ap, ◌∙◌}
use Rattle.vg_rup.proofs.Passing.{one_clause_more}
use Rattle.vg_rup.proofs.known.Known.new.Goals as goal

pub loop-at-preserved : goal.loop-at-preserved
loop-at-preserved c =
    let clause = c.get.result.now in
    c.in_ok-push.ensures ∙ ap (λ lists. lists ++ clause ∷ []) c.loop-at.invariant
    ∙ sym (one_clause_more c.args.clauses.now.clauses c.loop-at.at clause c.get.ensures.clause)
