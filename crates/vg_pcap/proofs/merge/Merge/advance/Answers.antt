use Rattle.vg_pcap.proofs.Merging.{advanced, advance_refused}
use Rattle.vg_pcap.proofs.merge.Merge.advance.Goals as goal

pub returns-in-Ok : goal.returns-in-Ok
returns-in-Ok g c = advanced c.requires.next.1 c.in-Ok.ensures

pub returns-in-Err : goal.returns-in-Err
returns-in-Err g c = advance_refused c.requires.next.1 c.in-Err.ensures
