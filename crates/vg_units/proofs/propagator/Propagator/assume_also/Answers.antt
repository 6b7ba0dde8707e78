use Rattle.std.proofs.Common.{◌+◌, subst, sym, ap, ◌∙◌}
use Rattle.vg_cnf.specs.Clauses.{holds}
use Rattle.vg_units.proofs.Assuming.{Assuming, assuming_starts, assuming_passes, assuming_clash, assuming_some, assuming_none, assuming_also}
use Rattle.vg_units.proofs.Assuming.{assuming_open, beyond_decided, further_beyond, read_held}
use Rattle.vg_units.proofs.propagator.Propagator.assume_also.Goals as goal
use Rattle.vg_units.proofs.propagator.Propagator.assume_also.Goals.{then-not-is_true+in_ok-decide+in_ok-propagate+else-is_some, else-not-is_true}

pub loop-literal-init : goal.loop-literal-init
loop-literal-init c = assuming_starts c.args.self.now c.args.list.now c.requires.at_end c.facts.ensures.sound (c.facts.ensures.settled c.requires.at_end)

pub returns-then-is_true-clause-answer : goal.returns-then-is_true-clause-answer
returns-then-is_true-clause-answer c =
    assuming_clash c.args.self.now c.loop-literal.self c.args.list.now c.loop-literal.literal-index c.literal-item.result c.facts.ensures.over
    (read_held c.args.list.now c.loop-literal.literal-index c.literal-item.result c.loop-literal-test.true c.literal-item.is)
    (sym c.is_true.ensures ∙ c.if-is_true.true) c.loop-literal.invariant

pub returns-then-is_some-clause-answer : goal.returns-then-is_some-clause-answer
returns-then-is_some-clause-answer c =
    assuming_some c.args.self.now c.loop-literal.self c.decide.new.self c.propagate.new.self c.args.list.now c.loop-literal.literal-index
    c.literal-item.result c.negated-negation.result
    c.in_ok-propagate.field-0 (sym c.is_some.ensures ∙ c.if-is_some.true) c.facts.ensures.over c.loop-literal-test.true c.literal-item.is
    c.negated-negation.ensures
    (record {
      decision = c.in_ok-decide.ensures;
      stay = c.propagate.ensures.same;
      sound = c.propagate.ensures.sound;
      grown =
          c.propagate.ensures.grown;
    }) c.in_ok-propagate.ensures.ends
    c.loop-literal.invariant

pub loop-literal-preserved : goal.loop-literal-preserved
loop-literal-preserved c =
    let start = c.args.self.now in
    let s = c.loop-literal.self in
    let list = c.args.list.now in
    let at = c.loop-literal.literal-index in
    let l = c.literal-item.result in
    elim c.if-not-is_true.branch [
      | then-not-is_true+in_ok-decide+in_ok-propagate+else-is_some w ↦
          subst (λ x. Assuming start x list (at + 1)) (sym w.self-is)
          (assuming_none start s w.decide.new.self w.propagate.new.self list at l c.negated-negation.result w.in_ok-propagate.field-0
          (sym w.is_some.ensures ∙ w.if-is_some.false)
          c.loop-literal-test.true c.literal-item.is c.negated-negation.ensures
          (record {
            decision = w.in_ok-decide.ensures;
            stay = w.propagate.ensures.same;
            sound = w.propagate.ensures.sound;
            grown =
                w.propagate.ensures.grown;
          }) w.in_ok-propagate.ensures.ends
          c.loop-literal.invariant)
      | else-not-is_true w ↦
          subst (λ x. Assuming start x list (at + 1)) (sym w.self-is)
          (assuming_passes start s list at l c.loop-literal-test.true c.literal-item.is
          (ap (holds s.trail) (sym c.negated-negation.ensures) ∙ sym c.is_true-in-loop-literal.ensures ∙ w.if-not-is_true.false) c.loop-literal.invariant)
    ]

pub returns-then-is_true-clause-further : goal.returns-then-is_true-clause-further
returns-then-is_true-clause-further c = λ ok. c.loop-literal.invariant.further

pub returns-then-is_some-clause-further : goal.returns-then-is_some-clause-further
returns-then-is_some-clause-further c =
    λ ok.
    further_beyond c.args.self.now c.loop-literal.self c.propagate.new.self
    (beyond_decided c.loop-literal.self c.decide.new.self c.propagate.new.self c.negated-negation.result
    (record { decision = c.in_ok-decide.ensures; stay = c.propagate.ensures.same; sound = c.propagate.ensures.sound; grown = c.propagate.ensures.grown }))
    c.loop-literal.invariant.further

pub returns-clause-further : goal.returns-clause-further
returns-clause-further c = λ ok. c.loop-literal.invariant.further

pub returns-clause-answer : goal.returns-clause-answer
returns-clause-answer c = assuming_open c.args.self.now c.loop-literal.self c.args.list.now c.loop-literal.literal-index c.loop-literal-test.false
    c.loop-literal.invariant

pub returns-clause-propagated : goal.returns-clause-propagated
returns-clause-propagated c = λ e. c.loop-literal.invariant.propagated

pub returns-clause-assumed : goal.returns-clause-assumed
returns-clause-assumed c = λ e. assuming_also c.args.self.now c.loop-literal.self c.args.list.now c.loop-literal.literal-index
    c.loop-literal-test.false c.loop-literal.invariant
