use Rattle.std.proofs.Common.{List, subst}
use Rattle.vg_stree.specs.declared.config.Route.{Route}
use Rattle.vg_stree.specs.Routes.{IsLongestMatch}
use Rattle.vg_lpm.proofs.Lookups.{ends_first, ends_second, ends_third}
use Rattle.vg_lpm.proofs.prefix.Prefix.lookup.Goals as goal

pub returns-in-Leaf-clause-answer : goal.returns-in-Leaf-clause-answer
returns-in-Leaf-clause-answer g c =
    subst (λ (routes : List Route). IsLongestMatch routes c.args.address c.in-Leaf.value) c.self.view_is
    (ends_first c.args.address c.get.result c.in-Leaf.value c.self.invariant c.ranges.address.fits c.get.ensures.value c.in-Leaf.ensures)

pub returns-in-Leaf-entry_of-clause-answer : goal.returns-in-Leaf-entry_of-clause-answer
returns-in-Leaf-entry_of-clause-answer g c =
    subst (λ (routes : List Route). IsLongestMatch routes c.args.address c.in-Leaf-entry_of.value) c.self.view_is
    (ends_second c.args.address c.get.result c.in-Link.block c.place.result c.get-2.result c.in-Leaf-entry_of.value c.self.invariant c.ranges.address.fits
    c.get.ensures.value c.in-Link.ensures c.place.ensures c.get-2.ensures.value c.in-Leaf-entry_of.ensures)

pub returns-clause-answer : goal.returns-clause-answer
returns-clause-answer g c =
    subst (λ (routes : List Route). IsLongestMatch routes c.args.address c.in-Leaf-entry_of-2.value) c.self.view_is
    (ends_third c.args.address c.get.result c.in-Link.block c.place.result c.get-2.result c.in-Link-entry_of.block c.place-2.result c.get-3.result
    c.in-Leaf-entry_of-2.value c.self.invariant c.ranges.address.fits
    c.get.ensures.value c.in-Link.ensures c.place.ensures c.get-2.ensures.value c.in-Link-entry_of.ensures c.place-2.ensures c.get-3.ensures.value
    c.in-Leaf-entry_of-2.ensures)
