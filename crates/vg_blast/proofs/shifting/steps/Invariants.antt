use Rattle.std.proofs.Common.{◌-◌, ◌^◌, ◌<◌}
use Rattle.vg_blast.proofs.shifting.steps.Given as goal

-- the power before this one is too small
abbrev pub invariant-loop-steps : goal.invariant-loop-steps
invariant-loop-steps l = 0 < l.steps → 2 ^ (l.steps - 1) < l.width
