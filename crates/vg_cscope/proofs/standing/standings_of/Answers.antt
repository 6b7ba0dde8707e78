use Rattle.std.proofs.Common.{length}
use Rattle.vg_cscope.proofs.Telling.{told_next}
use Rattle.vg_cscope.proofs.standing.standings_of.Goals as goal

pub loop-below-preserved : goal.loop-below-preserved
loop-below-preserved c =
    told_next c.args.tree.now (length c.nodes-count.result.now) c.loop-below.below _ _ _ c.loop-below-test.true c.tell.ensures c.loop-below.invariant
