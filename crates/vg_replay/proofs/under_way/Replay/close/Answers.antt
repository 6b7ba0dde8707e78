use Rattle.vg_replay.proofs.Stopping.{closes_all}
use Rattle.vg_replay.proofs.under_way.Replay.close.Goals as goal

pub returns : goal.returns
returns g c = rw (← c.self.view_is) (closes_all _ c.close-closed.result c.close.result c.close-closed.ensures c.close.ensures)
