use Rattle.std.proofs.Common.{ap, ◌∙◌, ◌∷◌}
use Rattle.std.proofs.lemmas.List.{take_all}
use Rattle.vg_cnf.specs.Clauses.{holds}
use Rattle.vg_cnf.specs.Orders.{negations}
use Rattle.vg_rup.proofs.Reading.{reads_negation}
use Rattle.vg_rup.proofs.assignment.Assignment.falsifying.Goals as goal

pub loop-literal-preserved : goal.loop-literal-preserved
loop-literal-preserved c =
    reads_negation c.loop-literal.made c.make_true.new.self c.args.clause.now c.loop-literal.literal-index c.literal-item.result
    c.loop-literal-test.true c.literal-item.is c.loop-literal.invariant
    (λ k. c.in_ok-make_true.ensures k ∙ ap (λ l. holds (l ∷ c.loop-literal.made) k) c.negated.ensures)

pub returns : goal.returns
returns c =
    λ k. c.loop-literal.invariant k ∙ ap (λ p. holds (negations p) k) (take_all c.loop-literal.literal-index c.args.clause.now c.loop-literal-test.false)
