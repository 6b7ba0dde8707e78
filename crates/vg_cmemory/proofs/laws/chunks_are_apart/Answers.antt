use Rattle.vg_cmemory.proofs.Stacked.{starts, stays, apart}
use Rattle.vg_cmemory.proofs.laws.chunks_are_apart.Goals as goal

pub returns-clause-starts : goal.returns-clause-starts
returns-clause-starts c = starts

pub returns-clause-stays : goal.returns-clause-stays
returns-clause-stays c = stays

pub returns-clause-apart : goal.returns-clause-apart
returns-clause-apart c = apart
