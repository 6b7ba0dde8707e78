use Rattle.vg_pcap.proofs.Laws.{HoldsStream-written}
use Rattle.vg_pcap.proofs.captures.written_is_read.Goals as goal

pub returns : goal.returns
returns c = HoldsStream-written
