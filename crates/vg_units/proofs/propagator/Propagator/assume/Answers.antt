use Rattle.std.proofs.Common.{[], refl}
use Rattle.vg_units.proofs.Assuming.{assumes_nothing, further_variables, further_clauses, further_rests, rests_open}
use Rattle.vg_units.proofs.propagator.Propagator.assume.Goals as goal

pub returns-clause-same : goal.returns-clause-same
returns-clause-same c =
    λ ok.
    let further = c.in_ok-answer.ensures.further refl in
    (further_variables c.args.self.now c.assume_also.new.self further, further_clauses c.args.self.now c.assume_also.new.self further)

pub returns-clause-releasable : goal.returns-clause-releasable
returns-clause-releasable c = λ ok. further_rests c.args.self.now c.assume_also.new.self c.requires.at_rest (c.in_ok-answer.ensures.further refl)

pub returns-clause-answer : goal.returns-clause-answer
returns-clause-answer c = c.in_ok-answer.ensures.answer [] (assumes_nothing c.args.self.now c.requires.at_rest.0) c.requires.over

pub returns-clause-rests : goal.returns-clause-rests
returns-clause-rests c =
    λ e.
    rests_open c.assume_also.new.self c.args.list.now c.facts.ensures.sound c.facts.ensures.settled (c.in_ok-answer.ensures.propagated e)
    (c.in_ok-answer.ensures.assumed e [] (assumes_nothing c.args.self.now c.requires.at_rest.0))
