use Rattle.std.proofs.Common.{refl, sym, subst, ap, ◌∙◌}
use Rattle.vg_sat.specs.Walks.{Walked}
use Rattle.vg_sat.specs.Learned.{IsLearnable}
use Rattle.vg_sat.proofs.Deciding.{walk_starts, going_starts, going_at, going_on, going_learnable, led_here}
use Rattle.vg_sat.proofs.walking.assume_in_turn.Goals as goal
use Rattle.vg_sat.proofs.walking.assume_in_turn.Goals.{then-is_open+in_ok-conflict+else-is_some, else-is_open}

pub loop-literal-init : goal.loop-literal-init
loop-literal-init c =
    let s = c.args.search.now in
    going_starts s c.new-clause.result.items (subst (Walked s) (sym c.new-clause.ensures.items)
    (walk_starts s c.requires c.facts.ensures.sound (c.facts.ensures.settled c.requires.1)))

pub loop-literal-preserved : goal.loop-literal-preserved
loop-literal-preserved c =
    let start = c.args.search.now in
    let s = c.loop-literal.search in
    let items = c.loop-literal.clause.items in
    elim c.if-is_open.branch [
      | then-is_open+in_ok-conflict+else-is_some w ↦
          let new = w.decide.new.search in
          let more = w.decide.new.clause.items in
          going_at start c.if-is_open.search new c.if-is_open.clause.items more w.search-is (ap (λ v. v.items) w.clause-is)
          (going_on start s new items more w.in_ok-conflict.conflict (λ at. IsLearnable s.variables s.clauses more) (sym w.is_some.ensures ∙ w.if-is_some.false)
          (w.in_ok-conflict.ensures.same refl) w.in_ok-conflict.ensures.led c.loop-literal.invariant)
      | else-is_open w ↦ going_at start c.if-is_open.search s c.if-is_open.clause.items items w.search-is (ap (λ v. v.items) w.clause-is)
          c.loop-literal.invariant
    ]

pub returns-then-is_some-clause-learnable : goal.returns-then-is_some-clause-learnable
returns-then-is_some-clause-learnable c =
    let s = c.loop-literal.search in
    let more = c.decide.new.clause.items in
    going_learnable c.args.search.now s c.loop-literal.clause.items more c.loop-literal.invariant
    (led_here c.in_ok-conflict.conflict (Walked c.decide.new.search more) (IsLearnable s.variables s.clauses more)
    (sym c.is_some.ensures ∙ c.if-is_some.true) c.in_ok-conflict.ensures.led)
