use Rattle.vg_cmemory.proofs.Gone.{writes_stay_inside}
use Rattle.vg_cmemory.proofs.Outside.{frame_writes}
use Rattle.vg_cmemory.proofs.Seen.{writes_are_seen}
use Rattle.vg_cmemory.proofs.Alone.{alone}
use Rattle.vg_cmemory.proofs.laws.writes_stay_inside.Goals as goal

pub returns-clause-objects : goal.returns-clause-objects
returns-clause-objects c = writes_stay_inside

pub returns-clause-frame : goal.returns-clause-frame
returns-clause-frame c = frame_writes

pub returns-clause-seen : goal.returns-clause-seen
returns-clause-seen c = writes_are_seen

pub returns-clause-alone : goal.returns-clause-alone
returns-clause-alone c = alone
