use Rattle.vg_dchain.proofs.RowLemmas.{row_empty}
use Rattle.vg_dchain.proofs.spare.Spare.is_empty.Goals as goal

pub returns : goal.returns
returns c = row_empty c.self.inside.next c.self.inside.bound c.self.inside.count c.args.self.now c.self.view_is
