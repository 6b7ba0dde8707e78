use Rattle.vg_smean.proofs.EffectLaws.{time_next, times_done}
use Rattle.vg_smean.proofs.effects.clear_times.Goals as goal

pub loop-index-preserved : goal.loop-index-preserved
loop-index-preserved c =
    time_next c.args.capacity c.args.indices.now c.loop-index.index-index _ _ _ _ c.loop-index-test.true c.clear_time.ensures c.loop-index.invariant

pub returns : goal.returns
returns c = times_done c.args.capacity c.args.indices.now c.loop-index.index-index _ _ c.loop-index-test.false c.loop-index.invariant
