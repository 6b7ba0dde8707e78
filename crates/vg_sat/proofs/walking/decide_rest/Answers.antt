use Rattle.std.proofs.Common.{◌≡◌, ◌+◌, refl, sym, subst, ap, ◌∙◌, arith}
use Rattle.std.specs.Prelude.{pos, neg_ℤ}
use Rattle.vg_sat.specs.Choices.{AreAssigned}
use Rattle.vg_sat.specs.Walks.{Walked}
use Rattle.vg_sat.specs.Learned.{IsLearnable}
use Rattle.vg_sat.proofs.Choosing.{AreAssignedTo}
use Rattle.vg_sat.proofs.Deciding.{going_starts, going_at, going_on, going_ends, assigned_decided, assigned_found}
use Rattle.vg_sat.proofs.walking.decide_rest.Goals as goal
use Rattle.vg_sat.proofs.walking.decide_rest.Goals.{then-is_undecided+in_ok-conflict+else-is_some, else-is_undecided}

pub loop-before-init : goal.loop-before-init
loop-before-init c =
    record { going = going_starts c.args.search.now c.args.clause.now.items c.requires; assigned = λ v some inside. absurd (omega (arith, some, inside)) }

pub decide-requires-clause-walked : goal.decide-requires-clause-walked
decide-requires-clause-walked c = c.loop-before.invariant.going.walked

pub loop-before-preserved : goal.loop-before-preserved
loop-before-preserved c =
    let start = c.args.search.now in
    let s = c.loop-before.search in
    let n = c.loop-before.before in
    let d = c.negated-decision.result in
    let items = c.loop-before.clause.items in
    let d_is : d ≡ neg_ℤ (pos (n + 1)) = c.negated-decision.ensures ∙ ap neg_ℤ c.of_variable.ensures in
    elim c.if-is_undecided.branch [
      | then-is_undecided+in_ok-conflict+else-is_some w ↦
          let new = w.decide.new.search in
          let more = w.decide.new.clause.items in
          record {
            going =
                going_at start c.if-is_undecided.search new c.if-is_undecided.clause.items more w.search-is (ap (λ v. v.items) w.clause-is)
                (going_on start s new items more w.in_ok-conflict.conflict (λ at. IsLearnable s.variables s.clauses more)
                (sym w.is_some.ensures ∙ w.if-is_some.false)
                (w.in_ok-conflict.ensures.same refl) w.in_ok-conflict.ensures.led c.loop-before.invariant.going);
            assigned =
                subst (λ x. AreAssignedTo x.trail (n + 1)) (sym w.search-is)
                (assigned_decided s.trail new.trail d n d_is (w.in_ok-conflict.ensures.kept refl) (w.in_ok-conflict.ensures.decided refl)
                c.loop-before.invariant.assigned);
          }
      | else-is_undecided w ↦
          record {
            going = going_at start c.if-is_undecided.search s c.if-is_undecided.clause.items items w.search-is (ap (λ v. v.items) w.clause-is)
                c.loop-before.invariant.going;
            assigned =
                subst (λ x. AreAssignedTo x.trail (n + 1)) (sym w.search-is)
                (assigned_found s.trail d n d_is (c.is_undecided.ensures.decided w.if-is_undecided.false) c.loop-before.invariant.assigned);
          }
    ]

pub returns-then-is_some-clause-same : goal.returns-then-is_some-clause-same
returns-then-is_some-clause-same c =
    λ ok.
    let alike = c.in_ok-conflict.ensures.same refl in
    (alike.0 ∙ c.loop-before.invariant.going.variables, alike.1 ∙ c.loop-before.invariant.going.clauses)

pub returns-then-is_some-clause-led : goal.returns-then-is_some-clause-led
returns-then-is_some-clause-led c =
    let new = c.decide.new.search in
    let items = c.decide.new.clause.items in
    going_ends c.args.search.now c.loop-before.search new c.loop-before.clause.items items c.in_ok-conflict.conflict (Walked new items)
    (Walked new items × AreAssigned new)
    (sym c.is_some.ensures ∙ c.if-is_some.true) c.in_ok-conflict.ensures.led (c.in_ok-conflict.ensures.level refl) c.loop-before.invariant.going

pub returns-clause-same : goal.returns-clause-same
returns-clause-same c = λ ok. (c.loop-before.invariant.going.variables, c.loop-before.invariant.going.clauses)

pub returns-clause-led : goal.returns-clause-led
returns-clause-led c = (
  c.loop-before.invariant.going.walked,
  λ v some inside. c.loop-before.invariant.assigned v some
      (omega (arith, inside, c.variables-before-end.ensures.count, c.loop-before.invariant.going.variables, c.loop-before-test.false)),
)
