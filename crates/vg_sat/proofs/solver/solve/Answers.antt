use Rattle.std.proofs.Common.{◌++◌, ◌∷◌, [], subst, ap, ◌∙◌}
use Rattle.std.specs.Prelude.{MatchOption, List, ℤ, Option}
use Rattle.vg_cnf.specs.Orders.{Reaches}
use Rattle.vg_units.specs.declared.propagator.Propagator.{Propagator}
use Rattle.vg_sat.specs.Loading.{IsLoaded}
use Rattle.vg_sat.proofs.Spending.{refuted_at_once}
use Rattle.vg_sat.proofs.solver.solve.Goals as goal

pub returns-in_default-clause-answer : goal.returns-in_default-clause-answer
returns-in_default-clause-answer c =
    let set = c.args.clauses.now in
    let reaches : Reaches set.clauses [] = subst (λ (o : Option Propagator). MatchOption o (Reaches set.clauses []) (IsLoaded set)) c.in_default.is
    c.in_ok-search.ensures in
    refuted_at_once set.variables set.clauses c.push.new.self (c.in_ok-push.ensures.ok ∙ ap (λ (xs : List (List ℤ)). xs ++ [] ∷ [])
    c.new-learned.ensures) c.each_is_over.ensures reaches
