use Rattle.std.proofs.Common.{take}
use Rattle.vg_rup.proofs.Reading.{OnlyOpen}
use Rattle.vg_rup.proofs.propagation.forced_by.Given as goal

-- of the literals read so far each is false but the open one
abbrev pub invariant-loop-literal : goal.invariant-loop-literal
invariant-loop-literal l = OnlyOpen l.made (take l.literal-index l.clause) l.open
