use Rattle.std.proofs.Common.{◌≡◌, false, sym, ◌∙◌}
use Rattle.std.proofs.lemmas.Bool.{false≢true}
use Rattle.vg_cnf.proofs.Truth.{true_so_far, false_at}
use Rattle.vg_cnf.specs.Clauses.{makes_all_true}
use Rattle.vg_cnf.proofs.clauses.Clauses.is_satisfied_by.Goals as goal

pub returns-then-not-makes_true : goal.returns-then-not-makes_true
returns-then-not-makes_true c =
    let clauses = c.args.self.now.clauses in
    let not_all : makes_all_true c.args.values.now clauses ≡ false =
    false_at c.args.values.now clauses c.loop-at.at c.get.result.now (makes_all_true c.args.values.now clauses) c.get.ensures.clause
    (sym c.makes_true.ensures ∙ c.if-not-makes_true.true) c.loop-at.invariant in
    (λ holds. absurd (false≢true holds), λ model. sym not_all ∙ model.each_clause)

pub loop-at-preserved : goal.loop-at-preserved
loop-at-preserved c =
    true_so_far c.args.values.now c.args.self.now.clauses c.loop-at.at c.get.result.now (makes_all_true c.args.values.now c.args.self.now.clauses)
    c.get.ensures.clause
    (sym c.makes_true.ensures ∙ c.if-not-makes_true.false) c.loop-at.invariant
