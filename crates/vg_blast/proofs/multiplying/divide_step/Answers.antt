use Rattle.std.proofs.Common.{length, take, sym, ap, ◌∙◌}
use Rattle.vg_blast.proofs.Products.{divide_step_made}
use Rattle.vg_blast.proofs.multiplying.divide_step.Goals as goal

pub returns : goal.returns
returns c =
    divide_step_made c.args.gates.now c.difference.new.gates c.choice.new.gates c.args.remainder.now c.args.divisor.now c.deref.result.now
    c.deref-2.result.now c.in_ok-rest.rest.items c.deref-5.result.now c.deref-6.result.now c.in_ok-left.left.items
    c.args.next c.in_ok-rest.borrowed c.negated.result c.falsity-falsity.result c.falsity-falsity.ensures.stood c.falsity-falsity.ensures.literal
    c.requires.same
    (c.deref.ensures.value ∙ c.in_ok-longer.ensures) (c.deref-2.ensures.value ∙ c.in_ok-wider.ensures) c.in_ok-rest.ensures
    (c.deref-5.ensures.value ∙ c.in_ok-kept.ensures ∙ ap (take (length c.args.remainder.now)) (c.deref-3.ensures.value ∙ sym c.deref.ensures.value))
    (c.deref-6.ensures.value ∙ c.in_ok-taken.ensures ∙ ap (take (length c.args.remainder.now)) c.deref-4.ensures.value)
    c.in_ok-left.ensures c.negated.ensures
