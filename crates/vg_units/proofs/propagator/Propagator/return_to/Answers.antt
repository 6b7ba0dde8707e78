use Rattle.std.proofs.Common.{length, inl, inr, ap, arith}
use Rattle.vg_units.proofs.Assuming.{returned, higher}
use Rattle.vg_units.proofs.propagator.Propagator.return_to.Goals as goal

pub returns-then-level-clause-returned : goal.returns-then-level-clause-returned
returns-then-level-clause-returned c =
    λ before here propagated further.
    elim further [
      | inl is ↦ absurd (omega (arith, here, ap (λ x. length x.starts) is, c.level.ensures, c.if-level.true))
      | inr h ↦ returned c.args.level before c.args.self.now c.back_to.new.self here propagated h c.back_to.ensures.taken_back
    ]

pub returns-else-level-clause-returned : goal.returns-else-level-clause-returned
returns-else-level-clause-returned c =
    λ before here propagated further.
    elim further [
      | inl is ↦ is
      | inr h ↦ absurd (omega (arith, higher c.args.level before c.args.self.now here h, c.level.ensures, c.if-level.false))
    ]
