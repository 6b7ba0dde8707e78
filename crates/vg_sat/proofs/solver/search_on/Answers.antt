use Rattle.std.proofs.Common.{◌≡◌, ◌++◌, ◌∷◌, [], refl, subst, arith}
use Rattle.std.specs.Prelude.{Bool, MatchBool}
use Rattle.vg_cnf.specs.Orders.{Reaches}
use Rattle.vg_units.specs.Searching.{IsAtRest}
use Rattle.vg_sat.specs.Learned.{IsLearned}
use Rattle.vg_sat.specs.Walks.{IsStep}
use Rattle.vg_sat.proofs.Counting.{spending_few}
use Rattle.vg_sat.proofs.Spending.{spending_starts, spending_step, spending_ended}
use Rattle.vg_sat.proofs.solver.search_on.Goals as goal

pub loop-count-init : goal.loop-count-init
loop-count-init c =
    spending_starts c.args.clauses.now c.args.search.now c.new-learned.result c.new-learned.ensures c.requires.loaded.variables
    c.requires.loaded.clauses c.requires.loaded.rest c.requires.over
    c.requires.loaded.undecided

pub next_step-requires : goal.next_step-requires
next_step-requires c = c.loop-count.invariant.rest

pub loop-count-preserved : goal.loop-count-preserved
loop-count-preserved c =
    let s = c.loop-count.search in
    let mid = c.next_step.new.search in
    let new = c.add.new.self in
    let e = c.deref-in-Learned.result.now in
    let learned : IsLearned s.variables s.clauses c.in-Learned.clause.items = subst (IsStep s) c.in-Learned.is c.in_ok-values.ensures.step in
    let added : IsAtRest new × (new.clauses ≡ mid.clauses ++ e ∷ []) =
    subst (λ (b : Bool). MatchBool b (IsAtRest new × (new.clauses ≡ mid.clauses ++ e ∷ [])) (Reaches (mid.clauses ++ e ∷ []) []))
    c.if-not-branch.false c.in_ok-add-in-Learned.ensures.added in
    spending_step c.args.clauses.now s s mid new c.loop-count.learned c.push.new.self c.loop-count._count c.in-Learned.clause.items c.deref.result.now
    e c.deref.ensures.value
    c.deref-in-Learned.ensures.value learned (refl, refl) (c.in_ok-values.ensures.same refl) c.add.ensures.variables added
    (c.in_ok-add-in-Learned.ensures.open c.if-not-branch.false)
    c.in_ok-push-in-Learned.ensures.ok c.loop-count.invariant

pub returns-then-not-branch-clause-answer : goal.returns-then-not-branch-clause-answer
returns-then-not-branch-clause-answer c =
    let s = c.loop-count.search in
    let mid = c.next_step.new.search in
    let new = c.add.new.self in
    let e = c.deref-in-Learned.result.now in
    let learned : IsLearned s.variables s.clauses c.in-Learned.clause.items = subst (IsStep s) c.in-Learned.is c.in_ok-values.ensures.step in
    let reaches : Reaches (mid.clauses ++ e ∷ []) [] =
    subst (λ (b : Bool). MatchBool b (IsAtRest new × (new.clauses ≡ mid.clauses ++ e ∷ [])) (Reaches (mid.clauses ++ e ∷ []) [])) c.if-not-branch.true
    c.in_ok-add-in-Learned.ensures.added in
    spending_ended c.args.clauses.now s s mid c.loop-count.learned c.push.new.self c.push-then-not-branch.new.self c.loop-count._count
    c.in-Learned.clause.items c.deref.result.now e
    c.deref.ensures.value c.deref-in-Learned.ensures.value learned (refl, refl) (c.in_ok-values.ensures.same refl) reaches c.in_ok-push-in-Learned.ensures.ok
    c.in_ok-push-in-Learned-2.ensures.ok c.loop-count.invariant

pub returns-clause-decided : goal.returns-clause-decided
returns-clause-decided c =
    λ enough. spending_few c.args.clauses.now c.loop-count.search c.loop-count.learned c.loop-count._count c.args.limit enough (omega arith)
    c.loop-count.invariant
