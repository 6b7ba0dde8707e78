use Rattle.std.proofs.Common.{arith}
use Rattle.vg_plain.proofs.Beginnings.{copied_all}
use Rattle.vg_store.proofs.beginning.vector_of.Goals as goal

pub returns-clause-cells : goal.returns-clause-cells
returns-clause-cells c = copied_all _ _ _ _ _ c.requires c.loop-i.invariant.counted (omega (arith, c.loop-i-test.false)) c.loop-i.invariant.copied
