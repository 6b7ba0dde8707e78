use Rattle.vg_pcap.proofs.Written.{starts_writing, starts_failed}
use Rattle.vg_pcap.proofs.writer.CaptureWriter.start.Goals as goal

pub returns-in_default : goal.returns-in_default
returns-in_default g c = starts_failed c.close.result c.in_ok-id.ensures (rw c.header_bytes.ensures at c.in_default.ensures) c.close.ensures

pub returns : goal.returns
returns g c = starts_writing c.in_ok-id.ensures (rw c.header_bytes.ensures at c.in-Ok.ensures)
