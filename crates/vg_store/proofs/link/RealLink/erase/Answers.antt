use Rattle.std.proofs.Common.{sym, subst}
use Rattle.std.specs.Prelude.{IsSome}
use Rattle.std.specs.FinMap.{get}
use Rattle.vg_plain.specs.PlainTables.{joined}
use Rattle.vg_store.specs.RealLinks.{Parts, link_of}
use Rattle.vg_store.proofs.TableLaws.{key_joined}
use Rattle.vg_store.proofs.LinkSteps.{erase_seen, erase_linked}
use Rattle.vg_store.proofs.link.RealLink.erase.Goals as goal

pub erase-requires-clause-present : goal.erase-requires-clause-present
erase-requires-clause-present c = subst IsSome (key_joined c.self.inside.keys.indices c.args.key.now)
    (subst (λ (p : Parts). IsSome (joined (get (link_of p).keys c.args.key.now))) (sym c.self.view_is) c.requires.present)

pub invariant_of-self : goal.invariant_of-self
invariant_of-self c =
    let was : Parts = record { keys = c.self.inside.keys; ages = c.self.inside.ages; cells = c.self.inside.cells } in
    rw c.erase.ensures (erase_linked was c.args.key.now c.self.invariant.0, c.self.invariant.1, c.self.invariant.2)

pub returns-clause-link : goal.returns-clause-link
returns-clause-link c =
    let was : Parts = record { keys = c.self.inside.keys; ages = c.self.inside.ages; cells = c.self.inside.cells } in
    let present = subst IsSome (key_joined c.self.inside.keys.indices c.args.key.now) (subst
    (λ (p : Parts). IsSome (joined (get (link_of p).keys c.args.key.now))) (sym c.self.view_is) c.requires.present) in
    rw (← c.self.view_is) (rw c.erase.ensures (erase_seen was c.args.key.now present))
