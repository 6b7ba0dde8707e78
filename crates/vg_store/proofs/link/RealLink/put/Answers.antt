use Rattle.std.proofs.Common.{◌≡◌, ◌∙◌, ap, sym, subst, length}
use Rattle.std.specs.FinMap.{get}
use Rattle.vg_plain.specs.PlainTables.{joined}
use Rattle.vg_store.specs.RealLinks.{Parts, link_of}
use Rattle.vg_store.proofs.TableLaws.{key_joined}
use Rattle.vg_store.proofs.LinkSteps.{put_seen, put_linked}
use Rattle.vg_store.proofs.link.RealLink.put.Goals as goal

pub put-requires-clause-absent : goal.put-requires-clause-absent
put-requires-clause-absent c = sym (key_joined c.self.inside.keys.indices c.args.key.now) ∙ ap
    (λ (p : Parts). joined (get (link_of p).keys c.args.key.now)) c.self.view_is ∙ c.requires.absent

pub invariant_of-self : goal.invariant_of-self
invariant_of-self c =
    let was : Parts = record { keys = c.self.inside.keys; ages = c.self.inside.ages; cells = c.self.inside.cells } in
    let long = subst (λ (p : Parts). length c.args.key.now ≡ (link_of p).key_length) (sym c.self.view_is) c.requires.long in
    rw c.put.ensures (put_linked was c.args.key.now c.args.index c.self.invariant.0 long, c.self.invariant.1, c.self.invariant.2)

pub returns-clause-link : goal.returns-clause-link
returns-clause-link c =
    let was : Parts = record { keys = c.self.inside.keys; ages = c.self.inside.ages; cells = c.self.inside.cells } in
    let absent = sym (key_joined c.self.inside.keys.indices c.args.key.now) ∙ ap (λ (p : Parts). joined (get (link_of p).keys c.args.key.now))
    c.self.view_is ∙ c.requires.absent in
    rw (← c.self.view_is) (rw c.put.ensures (put_seen was c.args.key.now c.args.index absent))
