use Rattle.vg_cscope.proofs.table.Table.leave_until.Goals as goal

pub loop-entry-preserved : goal.loop-entry-preserved
loop-entry-preserved c = λ s t. c.leave.ensures s (c.loop-entry.invariant s t)
