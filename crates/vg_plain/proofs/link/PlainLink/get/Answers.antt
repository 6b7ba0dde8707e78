use Rattle.std.proofs.Common.{ap, arith, length}
use Rattle.vg_plain.proofs.link.PlainLink.get.Goals as goal

pub find-requires-clause-few : goal.find-requires-clause-few
find-requires-clause-few c = omega (arith, ap length c.deref.ensures.value, c.self.invariant.slots, c.self.invariant.few)
