use Rattle.vg_smean.proofs.EffectLaws.{key_next, keys_done}
use Rattle.vg_smean.proofs.effects.clear_keys.Goals as goal

pub loop-index-preserved : goal.loop-index-preserved
loop-index-preserved c =
    key_next c.args.cells.now c.args.indices.now c.loop-index.index-index _ _ _ _ c.loop-index-test.true c.clear_key.ensures c.loop-index.invariant

pub returns : goal.returns
returns c = keys_done c.args.cells.now c.args.indices.now c.loop-index.index-index _ _ c.loop-index-test.false c.loop-index.invariant
