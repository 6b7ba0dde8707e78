use Rattle.std.proofs.Common.{◌+◌, ◌≤◌, ◌≡◌, false, arith}
use Rattle.vg_term.specs.declared.wire.Wire.TheVariants.{Fixed}
use Rattle.vg_term.proofs.Wires.{fixed_more}
use Rattle.vg_term.proofs.wire.fixed_word.Goals as goal

pub loop-at-preserved : goal.loop-at-preserved
loop-at-preserved c =
    let i = c.loop-at.invariant in
    let below = c.loop-at-test.true in
    let long : c.loop-at.at + 1 ≤ c.args.to = omega (arith, below) in
    let wide : c.args.from + c.concat-word.result.width ≡ c.loop-at.at + 1 = omega (arith, i.3, c.concat-word.ensures.width, c.from_bool.ensures.width) in (
      long,
      i.1,
      i.2,
      wide,
      fixed_more c.args.wires.now c.args.from c.loop-at.at (Fixed false) c.is_set-in-loop-at.result c.loop-at.word c.from_bool.result
          c.concat-word.result (omega (arith, below, i.2)) i.3 c.from_bool.ensures.value c.concat-word.ensures.value c.is_set-in-loop-at.ensures i.4,
    )
