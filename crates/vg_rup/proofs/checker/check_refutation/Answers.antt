use Rattle.std.proofs.Common.{◌++◌, ◌∷◌, [], sym, ap, ◌∙◌}
use Rattle.vg_cnf.specs.Refutations.{first_unfollowed}
use Rattle.vg_rup.proofs.Checking.{counted_from-zero, follows-clause, step_follows, step_fails}
use Rattle.vg_rup.proofs.checker.check_refutation.Goals as goal

pub loop-at-init : goal.loop-at-init
loop-at-init c =
    ap (λ clauses. first_unfollowed clauses c.args.proof.now) (sym c.in_ok-known.ensures) ∙ counted_from-zero
    (first_unfollowed c.in_ok-known.known c.args.proof.now)

pub push-requires : goal.push-requires
push-requires c = follows-clause c.loop-at.known c.get-step.result.now (sym c.in_ok-follows.ensures.answer ∙ c.if-not-branch.false)

pub loop-at-preserved : goal.loop-at-preserved
loop-at-preserved c =
    let known = c.loop-at.known in
    let step = c.get-step.result.now in
    step_follows known c.push.new.self c.args.proof.now c.loop-at.at step (first_unfollowed c.args.clauses.now.clauses c.args.proof.now) c.get-step.ensures
    (sym c.in_ok-follows.ensures.answer ∙ c.if-not-branch.false) (c.in_ok-push.ensures ∙ ap (λ xs. xs ++ step ∷ []) c.follows.ensures.same) c.loop-at.invariant

pub returns-then-not-branch-clause-fault : goal.returns-then-not-branch-clause-fault
returns-then-not-branch-clause-fault c =
    step_fails c.loop-at.known c.args.proof.now c.loop-at.at c.get-step.result.now (first_unfollowed c.args.clauses.now.clauses c.args.proof.now)
    c.get-step.ensures
    (sym c.in_ok-follows.ensures.answer ∙ c.if-not-branch.true) c.loop-at.invariant
