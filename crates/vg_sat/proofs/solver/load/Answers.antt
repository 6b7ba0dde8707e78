use Rattle.std.proofs.Common.{◌≡◌, ◌++◌, ◌∷◌, [], subst, ◌∙◌, arith}
use Rattle.std.specs.Prelude.{MatchBool, Bool}
use Rattle.vg_cnf.specs.Orders.{Reaches}
use Rattle.vg_units.specs.Searching.{IsAtRest}
use Rattle.vg_sat.proofs.Loads.{loading_starts, loading_on, loading_refuted, loading_ends}
use Rattle.vg_sat.proofs.solver.load.Goals as goal

pub loop-at-init : goal.loop-at-init
loop-at-init c =
    loading_starts c.args.clauses.now c.in_ok-search.search (c.in_ok-search.ensures.variables ∙ c.variables.ensures.count)
    c.in_ok-search.ensures.clauses c.in_ok-search.ensures.at_rest

pub returns-then-not-branch : goal.returns-then-not-branch
returns-then-not-branch c =
    let s = c.loop-at.search in
    let clause = c.get.result.now in
    let reaches : Reaches (s.clauses ++ clause ∷ []) [] =
    subst (λ (b : Bool). MatchBool b (IsAtRest c.add.new.self × (c.add.new.self.clauses ≡ s.clauses ++ clause ∷ []))
    (Reaches (s.clauses ++ clause ∷ []) [])) c.if-not-branch.true
    c.in_ok-add.ensures.added in
    loading_refuted c.args.clauses.now s c.loop-at.at clause c.get.ensures.clause reaches c.loop-at.invariant

pub loop-at-preserved : goal.loop-at-preserved
loop-at-preserved c =
    let s = c.loop-at.search in
    let clause = c.get.result.now in
    let new = c.add.new.self in
    let added : IsAtRest new × (new.clauses ≡ s.clauses ++ clause ∷ []) =
    subst (λ (b : Bool). MatchBool b (IsAtRest new × (new.clauses ≡ s.clauses ++ clause ∷ [])) (Reaches (s.clauses ++ clause ∷ []) []))
    c.if-not-branch.false c.in_ok-add.ensures.added in
    loading_on c.args.clauses.now s new c.loop-at.at clause c.get.ensures.clause c.add.ensures.variables added.1 added.0
    (c.in_ok-add.ensures.open c.if-not-branch.false) c.loop-at.invariant

pub returns : goal.returns
returns c =
    let end = c.len-at-end.ensures in
    loading_ends c.args.clauses.now c.loop-at.search c.loop-at.at (omega (arith, end, c.loop-at-test.false)) c.loop-at.invariant
