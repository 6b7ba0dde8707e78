use Rattle.std.proofs.Common.{refl, sym, ◌∙◌}
use Rattle.vg_sat.specs.Walks.{Walked}
use Rattle.vg_sat.specs.Learned.{IsLearnable}
use Rattle.vg_sat.proofs.Deciding.{going_starts, going_on, going_ends}
use Rattle.vg_sat.proofs.walking.decide_in_order.Goals as goal

pub loop-turn-init : goal.loop-turn-init
loop-turn-init c = going_starts c.args.search.now c.args.clause.now.items c.requires

pub decide-requires-clause-walked : goal.decide-requires-clause-walked
decide-requires-clause-walked c = c.loop-turn.invariant.walked

pub loop-turn-preserved : goal.loop-turn-preserved
loop-turn-preserved c =
    let s = c.loop-turn.search in
    going_on c.args.search.now s c.decide.new.search c.loop-turn.clause.items c.decide.new.clause.items c.in_ok-conflict.conflict
    (λ at. IsLearnable s.variables s.clauses c.decide.new.clause.items)
    (sym c.is_some.ensures ∙ c.if-is_some.false) (c.in_ok-conflict.ensures.same refl) c.in_ok-conflict.ensures.led c.loop-turn.invariant

pub returns-then-is_some-clause-same : goal.returns-then-is_some-clause-same
returns-then-is_some-clause-same c =
    λ ok.
    let alike = c.in_ok-conflict.ensures.same refl in
    (alike.0 ∙ c.loop-turn.invariant.variables, alike.1 ∙ c.loop-turn.invariant.clauses)

pub returns-then-is_some-clause-led : goal.returns-then-is_some-clause-led
returns-then-is_some-clause-led c =
    let new = c.decide.new.search in
    let items = c.decide.new.clause.items in
    going_ends c.args.search.now c.loop-turn.search new c.loop-turn.clause.items items c.in_ok-conflict.conflict (Walked new items) (Walked new items)
    (sym c.is_some.ensures ∙ c.if-is_some.true) c.in_ok-conflict.ensures.led (c.in_ok-conflict.ensures.level refl) c.loop-turn.invariant

pub returns-in_default-clause-same : goal.returns-in_default-clause-same
returns-in_default-clause-same c = λ ok. (c.loop-turn.invariant.variables, c.loop-turn.invariant.clauses)

pub returns-in_default-clause-led : goal.returns-in_default-clause-led
returns-in_default-clause-led c = c.loop-turn.invariant.walked

pub returns-clause-same : goal.returns-clause-same
returns-clause-same c = λ ok. (c.loop-turn.invariant.variables, c.loop-turn.invariant.clauses)

pub returns-clause-led : goal.returns-clause-led
returns-clause-led c = c.loop-turn.invariant.walked
