use Rattle.std.proofs.Common.{◌∙◌, ap, length}
use Rattle.vg_pcap.proofs.merge.tests.fill_next.Goals as goal

pub returns : goal.returns
returns c = λ a next.
    let bytes = c.fill.new.self in
    (bytes, c.frame_mut.ensures.written a bytes next (c.fill.ensures.len ∙ ap length (c.frame_mut.ensures.value a next)))
