use Rattle.vg_cmemory.proofs.Gone.{stays_gone, ends_life}
use Rattle.vg_cmemory.proofs.Stacked.{stays_gone_at_loans}
use Rattle.vg_cmemory.proofs.laws.gone_stays_gone.Goals as goal

pub returns-clause-stays : goal.returns-clause-stays
returns-clause-stays c = stays_gone

pub returns-clause-ends : goal.returns-clause-ends
returns-clause-ends c = ends_life

pub returns-clause-stays_at_loans : goal.returns-clause-stays_at_loans
returns-clause-stays_at_loans c = stays_gone_at_loans
