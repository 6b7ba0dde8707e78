use Rattle.std.proofs.Common.{refl, sym, subst, ◌∙◌, ◌<◌, length}
use Rattle.std.specs.Prelude.{IfOk, MatchOption}
use Rattle.vg_sat.specs.Choices.{AreAssigned}
use Rattle.vg_sat.specs.Walks.{Walked}
use Rattle.vg_sat.specs.Learned.{IsLearnable}
use Rattle.vg_sat.proofs.Deciding.{led_on, led_so}
use Rattle.vg_sat.proofs.walking.decide_each.Goals as goal

pub returns-then-is_some-clause-led : goal.returns-then-is_some-clause-led
returns-then-is_some-clause-led c =
    let start = c.args.search.now in
    let new = c.decide_in_order.new.search in
    let items = c.decide_in_order.new.clause.items in
    let ending = IsLearnable start.variables start.clauses items × (0 < length new.starts) in
    led_so c.in_ok-conflict.conflict (Walked new items) (Walked new items × AreAssigned new) ending ending (sym c.is_some.ensures ∙ c.if-is_some.true)
    (λ h. h) c.in_ok-conflict.ensures.led

pub decide_rest-requires : goal.decide_rest-requires
decide_rest-requires c =
    let start = c.args.search.now in
    let new = c.decide_in_order.new.search in
    let items = c.decide_in_order.new.clause.items in
    led_on c.in_ok-conflict.conflict (Walked new items) (λ at. IsLearnable start.variables start.clauses items × (0 < length new.starts))
    (sym c.is_some.ensures ∙ c.if-is_some.false)
    c.in_ok-conflict.ensures.led

pub returns-clause-same : goal.returns-clause-same
returns-clause-same c =
    λ ok.
    let first = c.in_ok-conflict.ensures.same refl in
    let second = c.decide_rest.ensures.same ok in
    (second.0 ∙ first.0, second.1 ∙ first.1)

pub returns-clause-led : goal.returns-clause-led
returns-clause-led c =
    let start = c.args.search.now in
    let mid = c.decide_in_order.new.search in
    let new = c.decide_rest.new.search in
    let items = c.decide_rest.new.clause.items in
    let first = c.in_ok-conflict.ensures.same refl in
    subst (λ n. IfOk c.decide_rest.result (λ end. MatchOption end (Walked new items × AreAssigned new)
    (λ at. IsLearnable n start.clauses items × (0 < length new.starts)))) first.0
    (subst (λ cs. IfOk c.decide_rest.result (λ end. MatchOption end (Walked new items × AreAssigned new)
    (λ at. IsLearnable mid.variables cs items × (0 < length new.starts)))) first.1
    c.decide_rest.ensures.led)
