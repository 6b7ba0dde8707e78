use Rattle.std.proofs.Common.{sym, ◌∙◌, below_more}
use Rattle.vg_cbounds.proofs.counting.loops_are_counted.Goals as goal

pub loop-n-preserved : goal.loop-n-preserved
loop-n-preserved c = below_more _ _ c.loop-n.invariant (sym c.is_counted.ensures ∙ c.if-not-is_counted.false)
