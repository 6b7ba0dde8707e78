use Rattle.std.proofs.Common.{arith}
use Rattle.std.specs.Int.{w64}
use Rattle.std.proofs.lemmas.Nat.Bits.{bit_at_set_same, bit_at_set_other}
use Rattle.vg_blast.proofs.Assignments.{bit_within}
use Rattle.vg_blast.proofs.assigning.with_bit.Goals as goal

pub invariant_of-result-clause-in_range : goal.invariant_of-result-clause-in_range
invariant_of-result-clause-in_range c = bit_within c.args.word.width c.args.word.value c.args.at c.args.word.at_most_64 c.requires c.args.word.in_range

pub returns-clause-set : goal.returns-clause-set
returns-clause-set c = bit_at_set_same w64 c.args.word.value c.args.at (omega (arith, c.requires, c.args.word.at_most_64))

pub returns-clause-others : goal.returns-clause-others
returns-clause-others c = λ i apart. bit_at_set_other w64 c.args.word.value c.args.at (omega (arith, c.requires, c.args.word.at_most_64)) i apart
