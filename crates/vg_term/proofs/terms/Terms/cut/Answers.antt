use Rattle.std.proofs.Common.{arith}
use Rattle.vg_term.proofs.Following.{cut_fits, cut_extract, cut_above, cut_low, cut_high}
use Rattle.vg_term.proofs.terms.Terms.cut.Goals as goal

pub overflow_add-result : goal.overflow_add-result
overflow_add-result c =
    let fits = cut_fits c.args.self.now c.args.op c.args.parts c.args.at c.requires.parts_stand c.requires.fits c.requires.within c.requires.made
    c.in-Extract-One.from c.in-Extract-One.width-0 c.in-Extract-One.term c.in-Extract-One.is-0 c.in-Extract-One.is-1 in
    record { fits = omega (arith, fits, c.ranges.at.fits) }

pub returns-then-at-width-2 : goal.returns-then-at-width-2
returns-then-at-width-2 c = cut_low c.args.self.now c.args.op c.args.parts c.args.at c.requires.parts_stand c.requires.fits c.requires.within
    c.in-Concat-Two.high c.in-Concat-Two.low c.in-Concat-Two.is-0 c.in-Concat-Two.is-1 (omega
    (arith, c.width-width.ensures.width, c.if-at-width-2.true))

pub returns-in-Extract-One : goal.returns-in-Extract-One
returns-in-Extract-One c = cut_extract c.args.self.now c.args.op c.args.parts c.args.at c.requires.parts_stand c.requires.fits c.requires.within
    c.in-Extract-One.from c.in-Extract-One.width-0 c.in-Extract-One.term c.in-Extract-One.is-0 c.in-Extract-One.is-1

pub returns-else-at-width : goal.returns-else-at-width
returns-else-at-width c = cut_above c.args.self.now c.args.op c.args.parts c.args.at c.requires.parts_stand c.requires.fits c.requires.within
    c.width.ensures.made c.in-Zext-One.field-0-0 c.in-Zext-One.term c.in-Zext-One.is-0 c.in-Zext-One.is-1
    (omega (arith, c.width.ensures.width, c.if-at-width.false))

pub returns-else-at-width-2 : goal.returns-else-at-width-2
returns-else-at-width-2 c = cut_high c.args.self.now c.args.op c.args.parts c.args.at c.requires.parts_stand c.requires.fits c.requires.within
    c.width-width.ensures.made c.in-Concat-Two.high c.in-Concat-Two.low c.width-width.result c.in-Concat-Two.is-0 c.in-Concat-Two.is-1
    c.width-width.ensures.width c.if-at-width-2.false
