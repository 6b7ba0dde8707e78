use Rattle.std.proofs.Common.{arith}
use Rattle.vg_plain.proofs.KeySlots.{all_used}
use Rattle.vg_plain.proofs.slots.first_free.Goals as goal

pub returns-clause-none : goal.returns-clause-none
returns-clause-none g c = all_used c.args.places.now (λ j less. c.loop-place.invariant.used j (omega arith))
