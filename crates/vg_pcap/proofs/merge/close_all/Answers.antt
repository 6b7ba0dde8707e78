use Rattle.vg_pcap.proofs.Closing.{closing-more}
use Rattle.vg_pcap.proofs.merge.close_all.Goals as goal

pub loop-input-preserved : goal.loop-input-preserved
loop-input-preserved g c =
    rw c.and-result.ensures
    (closing-more c.pop.new.self.items (record { reader = c.input.inside.reader; waits = c.input.inside.waits }) c.requires.apart c.loop-input.invariant
    (rw (← c.input.view_is) at c.in-Some.ensures.items) c.close.ensures)
