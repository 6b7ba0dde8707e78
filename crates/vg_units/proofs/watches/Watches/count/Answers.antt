use Rattle.std.proofs.Common.{◌<◌, length, subst, sym, inl, inr}
use Rattle.vg_units.specs.Lists.{IsListedFrom}
use Rattle.vg_units.specs.Watching.{list_in, pair_in, IsOneOf}
use Rattle.vg_units.proofs.watches.Watches.count.Goals as goal

pub returns-clause-listed : goal.returns-clause-listed
returns-clause-listed c =
    let inside = c.self.inside in
    λ clause within which.
    let l = c.args.literal in
    let here = subst (λ w. clause < length w.clauses) (sym c.self.view_is) within in
    let one = subst (λ w. IsOneOf (pair_in w.pairs clause) l) (sym c.self.view_is) which in
    subst (λ w. IsListedFrom (list_in w.lists l) 0 clause) c.self.view_is
    (elim one [
      | inl e ↦ subst (λ k. IsListedFrom (list_in inside.lists k) 0 clause) e (c.self.invariant.listed_first clause here)
      | inr e ↦ subst (λ k. IsListedFrom (list_in inside.lists k) 0 clause) e (c.self.invariant.listed_second clause here)
    ])
