use Rattle.vg_crows.proofs.Worked.{refusals}
use Rattle.vg_crows.proofs.laws.refusals_come_in_order.Goals as goal

pub returns : goal.returns
returns c = refusals
