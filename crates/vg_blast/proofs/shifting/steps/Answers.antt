use Rattle.std.proofs.Common.{◌^◌, ◌≤◌, arith}
use Rattle.std.proofs.lemmas.Nat.{one_shl}
use Rattle.vg_blast.proofs.Shifts.{steps_are}
use Rattle.vg_blast.proofs.shifting.steps.Goals as goal

pub returns-then-width-steps : goal.returns-then-width-steps
returns-then-width-steps c =
    let enough : c.args.width ≤ 2 ^ c.loop-steps.steps = omega (arith, c.if-width-steps.true, one_shl c.loop-steps.steps 64 (omega arith)) in
    steps_are c.args.width c.loop-steps.steps enough c.loop-steps.invariant
