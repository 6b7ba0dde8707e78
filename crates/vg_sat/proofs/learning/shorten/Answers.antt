use Rattle.std.proofs.Common.{◌≡◌, List, [], ◌++◌, length, true, subst, ap, ◌∙◌, arith}
use Rattle.std.specs.Prelude.{ℤ}
use Rattle.vg_cnf.specs.Clauses.{IsClauseOver}
use Rattle.vg_cnf.specs.Propagation.{follows}
use Rattle.vg_units.proofs.Assuming.{assumes_nothing}
use Rattle.vg_sat.specs.Learned.{IsReduced}
use Rattle.vg_sat.proofs.Shortening.{parts_joined, first_kept}
use Rattle.vg_sat.proofs.learning.shorten.Goals as goal

pub returns-clause-learned : goal.returns-clause-learned
returns-clause-learned c =
    let s = c.args.search.now in
    let clause = c.args.clause.now in
    let first = c.split_at.result.0.now in
    let others = c.split_at.result.1.now in
    let few = c.in_ok-more.more.items in
    let learnable = c.requires.learnable in
    let joined : clause ≡ first ++ others = parts_joined 1 clause first others c.split_at.ensures.front c.split_at.ensures.back in
    let one : length first ≡ 1 = omega (arith, c.split_at.ensures.front_len, learnable.some) in
    let is : c.extend_from_slice-2.new.self.items ≡ first ++ few =
    c.in_ok-extend_from_slice-2.ensures.items
    ∙ ap (λ (xs : List ℤ). xs ++ c.deref.result.now) (c.in_ok-extend_from_slice.ensures.items ∙ ap (λ (xs : List ℤ). xs ++ first) c.new-kept.ensures.items)
    ∙ ap (λ (xs : List ℤ). first ++ xs) c.deref.ensures.value in
    let reduced : IsReduced s.clauses first few =
    c.in_ok-more.ensures.needed [] (assumes_nothing s c.requires.at_rest.0) (subst (IsClauseOver s.variables) joined learnable.over)
    (subst (λ xs. follows s.clauses xs ≡ true) joined learnable.follows_it) in
    first_kept s.variables s.clauses clause first others few c.extend_from_slice-2.new.self.items joined one is c.in_ok-more.ensures.within learnable reduced
