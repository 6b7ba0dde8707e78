use Rattle.vg_pcap.proofs.Laws.{stream_or_bad}
use Rattle.vg_pcap.proofs.captures.stream_or_bad.Goals as goal

pub returns : goal.returns
returns c = stream_or_bad
