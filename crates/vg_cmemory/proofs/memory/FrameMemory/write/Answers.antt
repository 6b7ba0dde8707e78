use Rattle.std.proofs.Common.{◌<◌, length, List, ap, ◌∙◌, arith}
use Rattle.vg_cmemory.specs.State.{Slot, sizes}
use Rattle.vg_cmemory.specs.Access.{put_in_slot, bytes_of_word}
use Rattle.vg_cmemory.proofs.Slots.{changed, sizes_write}
use Rattle.vg_cmemory.proofs.memory.FrameMemory.write.Goals as goal

pub returns-then-node-len-clause-value : goal.returns-then-node-len-clause-value
returns-then-node-len-clause-value c =
    let within : c.args.node < length c.self.inside.local_list.items = omega arith in
    rw (← c.self.view_is)
    (ap (λ (slots : List Slot). record {
      slots = slots;
      chunks = c.self.inside.chunk_list.items;
      lent = c.self.inside.next;
      steps =
          c.self.inside.taken;
      born = c.self.inside.next_object;
    })
    (changed _ _ _ _ _ (put_in_slot c.args.at (bytes_of_word c.args.size c.args.word)) within c.index_mut.ensures.value c.write.ensures.value))

pub returns-then-node-len-clause-sizes : goal.returns-then-node-len-clause-sizes
returns-then-node-len-clause-sizes c = ap sizes (returns-then-node-len-clause-value c) ∙ sizes_write c.args.node c.args.at
    (bytes_of_word c.args.size c.args.word) c.args.self.now
