use Rattle.std.proofs.Common.{rules, arith, ◌<◌, length, ap}
use Rattle.vg_dchain.proofs.LinkLemmas.{length-indices_after}
use Rattle.vg_dchain.proofs.RowLemmas.{row_put_first}
use Rattle.vg_dchain.proofs.spare.Spare.put.Goals as goal

pub overflow_add-self : goal.overflow_add-self
overflow_add-self g c =
    let room : c.self.inside.count < c.self.inside.bound = omega (
      arith,
      c.requires.room,
      ap (λ v. length v.order) c.self.view_is,
      ap (λ v. v.bound) c.self.view_is,
      length-indices_after c.self.inside.count c.self.inside.next c.self.inside.bound,
    ) in
    search rules

pub invariant_of-self : goal.invariant_of-self
invariant_of-self g c = (row_put_first c.self.inside.next c.set.new.self c.set-2.new.self c.self.inside.bound c.self.inside.count c.args.index
    c.get-first.result c.args.self.now c.self.view_is c.self.invariant c.requires.bound c.requires.absent c.get-first.ensures.value
    c.set.ensures.stored c.set-2.ensures.stored).0

pub returns-clause-put : goal.returns-clause-put
returns-clause-put g c = (row_put_first c.self.inside.next c.set.new.self c.set-2.new.self c.self.inside.bound c.self.inside.count c.args.index
    c.get-first.result c.args.self.now c.self.view_is c.self.invariant c.requires.bound c.requires.absent c.get-first.ensures.value
    c.set.ensures.stored c.set-2.ensures.stored).1
