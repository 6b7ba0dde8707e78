use Rattle.vg_dchain.proofs.RowLemmas.{row_taken}
use Rattle.vg_dchain.proofs.spare.Spare.take.Goals as goal

pub invariant_of-self : goal.invariant_of-self
invariant_of-self g c = (row_taken c.self.inside.next c.set.new.self c.self.inside.bound c.self.inside.count c.get-index.result c.get-second.result
    c.args.self.now c.self.view_is c.self.invariant c.requires c.get-index.ensures.value c.get-second.ensures.value c.set.ensures.stored).0

pub returns-clause-taken : goal.returns-clause-taken
returns-clause-taken g c = (row_taken c.self.inside.next c.set.new.self c.self.inside.bound c.self.inside.count c.get-index.result c.get-second.result
    c.args.self.now c.self.view_is c.self.invariant c.requires c.get-index.ensures.value c.get-second.ensures.value c.set.ensures.stored).1
