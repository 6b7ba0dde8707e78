use Rattle.std.proofs.lemmas.Grind.{common_steps}
use Rattle.std.proofs.Common.{◌<◌, length, ◌+◌, ◌%◌, ◌^◌, List, ap, ◌∙◌, arith}
use Rattle.vg_cmemory.specs.State.{Slot, made}
use Rattle.vg_cmemory.proofs.Slots.{changed, sizes_declare}
use Rattle.vg_cmemory.specs.State.{sizes}
use Rattle.vg_cmemory.proofs.memory.FrameMemory.declare.Goals as goal

pub returns-then-node-len-clause-value : goal.returns-then-node-len-clause-value
returns-then-node-len-clause-value c =
    let within : c.args.node < length c.self.inside.local_list.items = omega arith in
    rw (← c.self.view_is)
    (ap (λ (slots : List Slot). record {
      slots = slots;
      chunks = c.self.inside.chunk_list.items;
      lent = c.self.inside.next;
      steps =
          c.self.inside.taken;
      born = (c.self.inside.next_object + 1) % 2 ^ 64;
    })
    (changed _ _ _ _ _ (made c.self.inside.next_object) within c.index_mut.ensures.value c.begin.ensures.value))

pub returns-then-node-len-clause-sizes : goal.returns-then-node-len-clause-sizes
returns-then-node-len-clause-sizes c = ap sizes (returns-then-node-len-clause-value c) ∙ sizes_declare c.args.node c.args.self.now

pub returns-else-node-len-clause-value : goal.returns-else-node-len-clause-value
returns-else-node-len-clause-value c = grind (arith, common_steps)

pub returns-else-node-len-clause-sizes : goal.returns-else-node-len-clause-sizes
returns-else-node-len-clause-sizes c = ap sizes (returns-else-node-len-clause-value c) ∙ sizes_declare c.args.node c.args.self.now
