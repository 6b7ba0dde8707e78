use Rattle.vg_bits.proofs.Masks.{wider_below}
use Rattle.vg_bits.proofs.resizing.zext.Goals as goal

pub invariant_of-result-clause-in_range : goal.invariant_of-result-clause-in_range
invariant_of-result-clause-in_range c =
    wider_below c.args.a.width c.args.width c.args.a.value c.args.a.in_range c.requires.wider
