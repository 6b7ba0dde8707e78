use Rattle.std.proofs.Common.{◌∙◌, ap, sym, subst}
use Rattle.std.specs.Prelude.{IsSome}
use Rattle.std.specs.FinMap.{get}
use Rattle.vg_dchain.specs.ChainState.{ChainState, IsLawful}
use Rattle.vg_plain.specs.PlainTables.{joined}
use Rattle.vg_store.specs.RealLinks.{Parts, link_of}
use Rattle.vg_store.proofs.TableLaws.{age_joined}
use Rattle.vg_store.proofs.LinkSteps.{free_seen, ages_linked}
use Rattle.vg_store.proofs.link.RealLink.free.Goals as goal

pub free-requires : goal.free-requires
free-requires c = subst IsSome (age_joined c.self.inside.ages.entries c.args.index) (subst
    (λ (p : Parts). IsSome (joined (get (link_of p).times c.args.index))) (sym c.self.view_is) c.requires)

pub invariant_of-self : goal.invariant_of-self
invariant_of-self c =
    let was : Parts = record { keys = c.self.inside.keys; ages = c.self.inside.ages; cells = c.self.inside.cells } in
    let same = ap (λ (a : ChainState). a.range) c.free.ensures.freed in
    (ages_linked was c.free.new.self c.self.invariant.0 same c.free.ensures.lawful, same ∙ c.self.invariant.1, c.self.invariant.2)

pub returns-clause-link : goal.returns-clause-link
returns-clause-link c =
    let was : Parts = record { keys = c.self.inside.keys; ages = c.self.inside.ages; cells = c.self.inside.cells } in
    let lawful = subst IsLawful c.free.ensures.freed c.free.ensures.lawful in
    rw (← c.self.view_is) (rw c.free.ensures.freed (free_seen was c.args.index c.self.invariant.0.lawful lawful))
