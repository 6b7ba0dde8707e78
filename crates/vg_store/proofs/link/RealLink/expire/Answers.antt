use Rattle.std.proofs.Common.{◌≡◌, ◌+◌, ◌∙◌, ap, sym, subst, take}
use Rattle.std.specs.FinMap.{len}
use Rattle.vg_map.specs.Map.{FixedMap}
use Rattle.vg_dchain.specs.ChainState.{ChainState}
use Rattle.vg_plain.specs.LinkStates.{IsKeyed}
use Rattle.vg_store.specs.RealLinks.{Parts, link_of}
use Rattle.vg_store.proofs.ExpiredLink.{are_tied, freed_are, expired_seen, expired_linked, same_shape}
use Rattle.vg_store.proofs.link.RealLink.expire.Goals as goal

pub expire_oldest-requires-clause-tied : goal.expire_oldest-requires-clause-tied
expire_oldest-requires-clause-tied c = are_tied (record { keys = c.self.inside.keys; ages = c.self.inside.ages; cells = c.self.inside.cells })
    (subst (λ (p : Parts). IsKeyed (link_of p)) (sym c.self.view_is) c.requires)

pub invariant_of-self : goal.invariant_of-self
invariant_of-self c =
    let was : Parts = record { keys = c.self.inside.keys; ages = c.self.inside.ages; cells = c.self.inside.cells } in
    let same = ap (λ (a : ChainState). a.range) c.expire_oldest.ensures.ages in
    let freed = take c.expire_oldest.result c.self.inside.ages.entries in
    rw c.expire_oldest.ensures.keys (
      expired_linked was freed c.expire_oldest.new.ages c.self.invariant.0 same c.expire_oldest.ensures.lawful,
      same ∙ c.self.invariant.1,
      (same_shape c.self.inside.cells.cells c.self.inside.keys freed).1 ∙ c.self.invariant.2,
    )

pub returns-clause-freed : goal.returns-clause-freed
returns-clause-freed c =
    let was : Parts = record { keys = c.self.inside.keys; ages = c.self.inside.ages; cells = c.self.inside.cells } in
    let tied = are_tied was (subst (λ (p : Parts). IsKeyed (link_of p)) (sym c.self.view_is) c.requires) in
    rw (← c.self.view_is) (freed_are was c.args.before c.expire_oldest.result c.self.invariant.0.lawful tied c.expire_oldest.ensures.some
    c.expire_oldest.ensures.early c.expire_oldest.ensures.late)

pub returns-clause-expired : goal.returns-clause-expired
returns-clause-expired c =
    let was : Parts = record { keys = c.self.inside.keys; ages = c.self.inside.ages; cells = c.self.inside.cells } in
    let tied = are_tied was (subst (λ (p : Parts). IsKeyed (link_of p)) (sym c.self.view_is) c.requires) in
    let counted = subst (λ (m : FixedMap). len m.indices + c.expire_oldest.result ≡ len c.self.inside.keys.indices) c.expire_oldest.ensures.keys
    c.expire_oldest.ensures.counted in
    rw (← c.self.view_is) (rw (c.expire_oldest.ensures.keys, c.expire_oldest.ensures.ages)
    (expired_seen was c.args.before c.expire_oldest.result c.self.invariant.0.lawful tied
    c.expire_oldest.ensures.some c.expire_oldest.ensures.early c.expire_oldest.ensures.late counted))
