use Rattle.std.proofs.Common.{subst, refl, sym, ap, ◌∙◌}
use Rattle.std.specs.Prelude.{◌≢◌, neg_ℤ}
use Rattle.vg_cnf.specs.Clauses.{holds}
use Rattle.vg_cnf.proofs.Steps.{same_literal, clash}
use Rattle.vg_units.specs.Watching.{clause_of, IsUnwatched, IsLeftOut}
use Rattle.vg_units.specs.Propagating.{AreFalseBeside, Settles, Visits}
use Rattle.std.specs.Prelude.{IfOk}
use Rattle.vg_units.proofs.Visiting.{apart_from, advances_refl, advances_same, advances_moved, visit_unwatched, visit_twice, visit_true, visit_moved}
use Rattle.vg_units.proofs.Visiting.{forced_advances, forced_visits}
use Rattle.vg_units.proofs.propagation.look_at.Goals as goal
use Rattle.vg_units.proofs.propagation.look_at.Goals.{then-eq-via-then-eq, then-eq-via-else-eq+then-is_true}

pub returns-in_default-clause-advances : goal.returns-in_default-clause-advances
returns-in_default-clause-advances c = advances_same c.args.watches.now c.leave_out.new.self c.args.trail.now c.leave_out.ensures.same

pub returns-in_default-clause-visits : goal.returns-in_default-clause-visits
returns-in_default-clause-visits c =
    let old = c.args.watches.now in
    let f = c.args.literal in (
      c.leave_out.ensures.left_out,
      visit_unwatched old c.leave_out.new.self c.args.trail.now f _ c.leave_out.ensures.same
          (subst (IsUnwatched old f) c.entry-clause.ensures c.in_default.ensures),
    )

pub returns-then-eq-clause-advances : goal.returns-then-eq-clause-advances
returns-then-eq-clause-advances c = advances_refl c.args.watches.now c.args.trail.now

pub returns-then-eq-clause-visits : goal.returns-then-eq-clause-visits
returns-then-eq-clause-visits c =
    let w = c.args.watches.now in
    let t = c.args.trail.now in
    let f = c.args.literal in
    let clause = c.entry-clause.result in
    let other = c.in-Some.other in
    let settles : Settles w w t.literals t.literals f clause =
    elim c.then-eq.branch [
      | then-eq-via-then-eq b ↦ visit_twice w t f clause other c.in-Some.ensures (same_literal other f (sym c.eq.ensures ∙ b.if-eq.true))
      | then-eq-via-else-eq+then-is_true b ↦ visit_true w t.literals t.literals f clause other c.in-Some.ensures (sym b.is_true.ensures ∙ b.if-is_true.true)
    ] in
    (refl, λ inside. subst (Settles w w t.literals t.literals f) c.entry-clause.ensures settles)

pub returns-in_default-open_beside-clause-advances :
    goal.returns-in_default-open_beside-clause-advances
returns-in_default-open_beside-clause-advances c =
    let w = c.args.watches.now in
    let t = c.args.trail.now in
    let others : AreFalseBeside t.literals (clause_of w c.entry-clause.result) c.in-Some.other =
    subst (λ d. AreFalseBeside t.literals d c.in-Some.other) c.clause.ensures.clause c.in_default-open_beside.ensures in
    forced_advances w t c.force.new.trail c.args.literal c.entry-clause.result c.in-Some.other c.force.result c.in-Some.ensures others
    (sym c.is_true.ensures ∙ c.if-is_true.false) c.force.ensures.forces c.force.ensures.err

pub returns-in_default-open_beside-clause-visits :
    goal.returns-in_default-open_beside-clause-visits
returns-in_default-open_beside-clause-visits c =
    let w = c.args.watches.now in
    let t = c.args.trail.now in
    let others : AreFalseBeside t.literals (clause_of w c.entry-clause.result) c.in-Some.other =
    subst (λ d. AreFalseBeside t.literals d c.in-Some.other) c.clause.ensures.clause c.in_default-open_beside.ensures in
    subst (λ n. IfOk c.force.result (Visits w w t.literals c.force.new.trail.literals c.args.literal c.args.at n)) c.entry-clause.ensures
    (forced_visits w t c.force.new.trail c.args.literal c.args.at c.entry-clause.result c.in-Some.other c.force.result c.in-Some.ensures others
    c.force.ensures.forces)

pub exchange-requires-clause-held : goal.exchange-requires-clause-held
exchange-requires-clause-held c =
    ap (λ d. holds d c.in-Some-open_beside.second) (sym c.clause.ensures.clause) ∙ c.in-Some-open_beside.ensures.0

pub returns-in_err-exchange-clause-advances : goal.returns-in_err-exchange-clause-advances
returns-in_err-exchange-clause-advances c = advances_same c.args.watches.now c.exchange.new.self c.args.trail.now c.in_err-exchange.ensures.err

pub returns-clause-advances : goal.returns-clause-advances
returns-clause-advances c =
    let k = c.in-Some-open_beside.second in
    let other = c.in-Some.other in
    advances_moved c.args.watches.now c.exchange.new.self c.args.trail.now c.entry-clause.result c.args.literal other k c.in_ok-exchange.ensures.ok
    c.in-Some.ensures
    (λ e. apart_from k other c.in-Some-open_beside.ensures.1 (sym e)) (ap (λ d. holds d k) (sym c.clause.ensures.clause)
    ∙ c.in-Some-open_beside.ensures.0) c.in-Some-open_beside.ensures.2 c.in_ok-exchange.ensures.paired

pub returns-clause-visits : goal.returns-clause-visits
returns-clause-visits c =
    let old = c.args.watches.now in
    let new = c.exchange.new.self in
    let t = c.args.trail.now in
    let f = c.args.literal in
    let k = c.in-Some-open_beside.second in
    let other = c.in-Some.other in
    let k_f : k ≢ f = λ e. clash (holds t.literals (neg_ℤ f)) c.requires.is_false (ap (λ x. holds t.literals (neg_ℤ x)) (sym e)
    ∙ c.in-Some-open_beside.ensures.2) in
    let settles =
    visit_moved old new t c.entry-clause.result f other k c.in_ok-exchange.ensures.ok c.in-Some.ensures
    (λ e. apart_from k other c.in-Some-open_beside.ensures.1 (sym e))
    (ap (λ d. holds d k) (sym c.clause.ensures.clause) ∙ c.in-Some-open_beside.ensures.0)
    (apart_from other f (sym c.eq.ensures ∙ c.if-eq.false)) k_f c.in-Some-open_beside.ensures.2 c.in_ok-exchange.ensures.paired in (
      subst (IsLeftOut old.lists new.lists f c.args.at) c.entry-clause.ensures c.in_ok-exchange.ensures.left_out,
      λ inside. subst (Settles old new t.literals t.literals f) c.entry-clause.ensures settles,
    )
