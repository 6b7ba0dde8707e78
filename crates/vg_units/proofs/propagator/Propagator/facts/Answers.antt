use Rattle.std.proofs.Common.{◌≡◌, length, subst}
use Rattle.std.specs.Prelude.{All}
use Rattle.vg_cnf.specs.Orders.{Settled}
use Rattle.vg_units.proofs.Keeping.{kept_settled}
use Rattle.vg_units.proofs.propagator.Propagator.facts.Goals as goal

pub returns-clause-settled : goal.returns-clause-settled
returns-clause-settled c =
    let s = c.self.inside in
    subst (λ v. v.head ≡ length v.trail → All (Settled v.trail) v.clauses) c.self.view_is (kept_settled s.watches s.trail s.starts.items s.head
    c.self.invariant)
