use Rattle.std.proofs.Common.{take, subst, sym, arith}
use Rattle.std.specs.Prelude.{All}
use Rattle.std.proofs.lemmas.List.{take_all}
use Rattle.std.proofs.lemmas.List.Elements.{All-push}
use Rattle.vg_cnf.specs.Clauses.{IsClauseOver}
use Rattle.vg_sat.proofs.Loads.{one_more}
use Rattle.vg_sat.proofs.solver.each_is_over.Goals as goal

pub loop-at-init : goal.loop-at-init
loop-at-init c = λ k d below. absurd (omega arith)

pub loop-at-preserved : goal.loop-at-preserved
loop-at-preserved c =
    let set = c.args.clauses.now in
    subst (All (IsClauseOver set.variables)) (sym (one_more set.clauses c.loop-at.at c.get-clause.result.now c.get-clause.ensures.clause))
    (All-push (IsClauseOver set.variables) (take c.loop-at.at set.clauses) c.get-clause.result.now c.loop-at.invariant c.get-clause.ensures.over)

pub returns : goal.returns
returns c =
    let set = c.args.clauses.now in
    let end = c.len-at-end.ensures in
    subst (All (IsClauseOver set.variables)) (take_all c.loop-at.at set.clauses (omega (arith, end, c.loop-at-test.false))) c.loop-at.invariant
