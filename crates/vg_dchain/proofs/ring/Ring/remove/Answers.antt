use Rattle.std.proofs.Common.{arith}
use Rattle.vg_dchain.specs.Links.{indices_after}
use Rattle.vg_dchain.proofs.RingLemmas.{Parts, ring_parts, ring_removed}
use Rattle.vg_dchain.proofs.ring.Ring.remove.Goals as goal

pub get-before-requires : goal.get-before-requires
get-before-requires g c =
    let parts : Parts c.self.inside.next c.self.inside.previous c.self.inside.bound (indices_after c.self.inside.count c.self.inside.next
    c.self.inside.bound) c.args.index = ring_parts c.self.inside.next c.self.inside.previous c.self.inside.bound c.self.inside.count c.args.index
    c.args.self.now c.self.view_is c.self.invariant c.requires in
    omega (arith, parts.within, parts.ring.previous_fits)

pub get-after-requires : goal.get-after-requires
get-after-requires g c =
    let parts : Parts c.self.inside.next c.self.inside.previous c.self.inside.bound (indices_after c.self.inside.count c.self.inside.next
    c.self.inside.bound) c.args.index = ring_parts c.self.inside.next c.self.inside.previous c.self.inside.bound c.self.inside.count c.args.index
    c.args.self.now c.self.view_is c.self.invariant c.requires in
    omega (arith, parts.within, parts.ring.next_fits)

pub set-requires : goal.set-requires
set-requires g c =
    let parts : Parts c.self.inside.next c.self.inside.previous c.self.inside.bound (indices_after c.self.inside.count c.self.inside.next
    c.self.inside.bound) c.args.index = ring_parts c.self.inside.next c.self.inside.previous c.self.inside.bound c.self.inside.count c.args.index
    c.args.self.now c.self.view_is c.self.invariant c.requires in
    omega (arith, parts.before, parts.ring.next_fits, c.get-before.ensures.value)

pub set-requires-2 : goal.set-requires-2
set-requires-2 g c =
    let parts : Parts c.self.inside.next c.self.inside.previous c.self.inside.bound (indices_after c.self.inside.count c.self.inside.next
    c.self.inside.bound) c.args.index = ring_parts c.self.inside.next c.self.inside.previous c.self.inside.bound c.self.inside.count c.args.index
    c.args.self.now c.self.view_is c.self.invariant c.requires in
    omega (arith, parts.after, parts.ring.previous_fits, c.get-after.ensures.value)

pub invariant_of-self : goal.invariant_of-self
invariant_of-self g c = (ring_removed c.self.inside.next c.self.inside.previous c.set.new.self c.set-2.new.self c.self.inside.bound
    c.self.inside.count c.args.index c.get-before.result c.get-after.result c.args.self.now c.self.view_is c.self.invariant c.requires
    c.get-before.ensures.value c.get-after.ensures.value c.set.ensures.stored c.set-2.ensures.stored).0

pub returns-clause-removed : goal.returns-clause-removed
returns-clause-removed g c = (ring_removed c.self.inside.next c.self.inside.previous c.set.new.self c.set-2.new.self c.self.inside.bound
    c.self.inside.count c.args.index c.get-before.result c.get-after.result c.args.self.now c.self.view_is c.self.invariant c.requires
    c.get-before.ensures.value c.get-after.ensures.value c.set.ensures.stored c.set-2.ensures.stored).1
