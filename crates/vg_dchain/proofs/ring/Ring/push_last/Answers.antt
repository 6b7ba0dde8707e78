use Rattle.std.proofs.Common.{rules, arith, ◌<◌, length, ap}
use Rattle.vg_dchain.specs.Links.{indices_after, IsRing}
use Rattle.vg_dchain.proofs.LinkLemmas.{length-indices_after}
use Rattle.vg_dchain.proofs.RingLemmas.{ring_pushed, ring_last-below}
use Rattle.vg_dchain.proofs.ring.Ring.push_last.Goals as goal

pub set-requires : goal.set-requires
set-requires g c =
    let ring : IsRing c.self.inside.next c.self.inside.previous c.self.inside.bound (indices_after c.self.inside.count c.self.inside.next
    c.self.inside.bound) = c.self.invariant in
    omega (
      arith,
      ring.next_fits,
      ring_last-below c.self.inside.next c.self.inside.previous c.self.inside.bound
          (indices_after c.self.inside.count c.self.inside.next c.self.inside.bound) ring,
      c.get-last.ensures.value,
    )

pub overflow_add-self : goal.overflow_add-self
overflow_add-self g c =
    let room : c.self.inside.count < c.self.inside.bound = omega (
      arith,
      c.requires.room,
      ap (λ v. length v.order) c.self.view_is,
      ap (λ v. v.bound) c.self.view_is,
      length-indices_after c.self.inside.count c.self.inside.next c.self.inside.bound,
    ) in
    search rules

pub invariant_of-self : goal.invariant_of-self
invariant_of-self g c = (ring_pushed c.self.inside.next c.self.inside.previous c.set.new.self c.set-3.new.self c.set-2.new.self c.set-4.new.self
    c.self.inside.bound c.self.inside.count c.args.index c.get-last.result c.args.self.now c.self.view_is c.self.invariant c.requires.bound
    c.requires.absent c.get-last.ensures.value c.set.ensures.stored c.set-2.ensures.stored c.set-3.ensures.stored c.set-4.ensures.stored).0

pub returns-clause-pushed : goal.returns-clause-pushed
returns-clause-pushed g c = (ring_pushed c.self.inside.next c.self.inside.previous c.set.new.self c.set-3.new.self c.set-2.new.self c.set-4.new.self
    c.self.inside.bound c.self.inside.count c.args.index c.get-last.result c.args.self.now c.self.view_is c.self.invariant c.requires.bound
    c.requires.absent c.get-last.ensures.value c.set.ensures.stored c.set-2.ensures.stored c.set-3.ensures.stored c.set-4.ensures.stored).1
