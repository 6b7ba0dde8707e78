use Rattle.vg_smean.proofs.KeyLaws.{no_value}
use Rattle.vg_smean.proofs.keys.key_bytes.Goals as goal

pub returns-then-i-values : goal.returns-then-i-values
returns-then-i-values c = no_value _ _ _ _ _ c.if-i-values.true c.loop-i.invariant
