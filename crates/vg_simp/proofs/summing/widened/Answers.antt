use Rattle.std.proofs.Common.{◌≤◌, ◌^◌, arith}
use Rattle.std.proofs.Math.Pow.{pow_mono}
use Rattle.vg_simp.proofs.summing.widened.Goals as goal

pub overflow_sub-value : goal.overflow_sub-value
overflow_sub-value c =
    let wider : 2 ^ c.args.narrow.width ≤ 2 ^ c.args.width = pow_mono c.requires.wider in
    omega (arith, wider, c.all_ones.ensures.value, c.all_ones-then-range-room-2.ensures.value)
