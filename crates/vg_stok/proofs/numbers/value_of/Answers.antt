use Rattle.std.proofs.Common.{◌∙◌, sym, arith}
use Rattle.vg_stok.specs.Numbers.{value_on}
use Rattle.vg_stok.proofs.NumberLaws.{later-le, value-end, too_great, small}
use Rattle.vg_stok.proofs.numbers.value_of.Goals as goal

pub returns-in_err-shifted : goal.returns-in_err-shifted
returns-in_err-shifted c =
    let later = later-le c.args.base c.loop-b.value c.args.digits.now c.loop-b.b-index c.requires c.loop-b-test.true in
    let over = rw c.from.ensures at c.in_err-shifted.ensures in
    rw c.from_residual.ensures (too_great _ (omega (arith, later, over, c.loop-b.invariant.rest)))

pub returns-in_err-value : goal.returns-in_err-value
returns-in_err-value c =
    let later = later-le c.args.base c.loop-b.value c.args.digits.now c.loop-b.b-index c.requires c.loop-b-test.true in
    let shifted = rw c.from.ensures at c.in_ok-shifted.ensures in
    rw c.from_residual-in_err-value.ensures
    (too_great _ (omega (arith, later, shifted, c.digit_of.ensures, c.from-in-loop-b.ensures, c.in_err-value.ensures, c.loop-b.invariant.rest)))

pub returns : goal.returns
returns c =
    let end = value-end c.args.base c.loop-b.value c.args.digits.now c.loop-b.b-index (omega arith) in
    small c.loop-b.value (value_on c.args.base 0 c.args.digits.now) (sym end ∙ c.loop-b.invariant.rest) c.loop-b.invariant.below
