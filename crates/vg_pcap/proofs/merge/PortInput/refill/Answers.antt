use Rattle.vg_pcap.proofs.Refilling.{refilled, refill_refused}
use Rattle.vg_pcap.proofs.merge.PortInput.refill.Goals as goal

pub returns-in-Ok : goal.returns-in-Ok
returns-in-Ok g c = rw (← c.self.view_is) (refilled c.self.inside.waits c.in-Ok.waits c.in-Ok.ensures)

pub returns-in-Err : goal.returns-in-Err
returns-in-Err g c = rw (← c.self.view_is) (refill_refused c.self.inside.waits c.in-Err.ensures)
