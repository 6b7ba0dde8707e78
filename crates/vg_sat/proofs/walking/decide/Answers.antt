use Rattle.std.proofs.Common.{◌≡◌, ◌∷◌, ap, ◌∙◌}
use Rattle.std.specs.Prelude.{ℤ, neg_ℤ}
use Rattle.vg_units.proofs.Assuming.{Decided}
use Rattle.vg_sat.proofs.Deciding.{walk_led, same_variables, same_clauses, step_keeps, step_decides, step_level}
use Rattle.vg_sat.proofs.walking.decide.Goals as goal

step : (c : goal.After-propagate) → Decided c.args.search.now c.decide.new.self c.propagate.new.self c.args.decision
step c = record { decision = c.in_ok-decide.ensures; stay = c.propagate.ensures.same; sound = c.propagate.ensures.sound; grown = c.propagate.ensures.grown }

pub returns-clause-same : goal.returns-clause-same
returns-clause-same c =
    λ ok. (
      same_variables c.args.search.now c.decide.new.self c.propagate.new.self c.args.decision (step c),
      same_clauses c.args.search.now c.decide.new.self c.propagate.new.self c.args.decision (step c),
    )

pub returns-clause-led : goal.returns-clause-led
returns-clause-led c =
    let s = c.args.search.now in
    let d = c.args.decision in
    let clause = c.args.clause.now.items in
    let items : c.insert.new.self.items ≡ neg_ℤ d ∷ clause = c.in_ok-insert.ensures.items ∙ ap (λ (x : ℤ). x ∷ clause) c.negated.ensures in
    walk_led c.propagate.result s c.decide.new.self c.propagate.new.self clause c.insert.new.self.items d c.facts.ensures.over c.requires.undecided
    items (step c) c.propagate.ensures.ends
    c.requires.walked

pub returns-clause-level : goal.returns-clause-level
returns-clause-level c = λ ok. step_level c.args.search.now c.decide.new.self c.propagate.new.self c.args.decision (step c)

pub returns-clause-kept : goal.returns-clause-kept
returns-clause-kept c = λ ok. step_keeps c.args.search.now c.decide.new.self c.propagate.new.self c.args.decision (step c)

pub returns-clause-decided : goal.returns-clause-decided
returns-clause-decided c = λ ok. step_decides c.args.search.now c.decide.new.self c.propagate.new.self c.args.decision (step c)
