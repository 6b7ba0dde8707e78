use Rattle.std.proofs.Common.{◌*◌, ◌-◌, length, refl, sym, subst}
use Rattle.vg_blast.specs.Dividing.{Divides}
use Rattle.vg_blast.proofs.Products.{divide_none, divide_more}
use Rattle.vg_blast.proofs.multiplying.divided.Goals as goal

pub loop-done-init : goal.loop-done-init
loop-done-init c =
    divide_none c.args.gates.now c.args.a.now c.args.b.now c.new-quotient.result.items c.in_ok-remainder.remainder.items c.falsity-falsity.result
    c.falsity-falsity.ensures.stood c.falsity-falsity.ensures.literal c.requires.same
    c.new-quotient.ensures.items c.in_ok-remainder.ensures

pub loop-done-preserved : goal.loop-done-preserved
loop-done-preserved c =
    divide_more c.args.gates.now c.loop-done.gates c.divide_step.new.gates c.args.a.now c.args.b.now c.loop-done.quotient.items c.deref.result.now
    c.in_ok-fits.left.items c.insert.new.self.items c.index-a-a.result c.in_ok-fits.fits
    c.loop-done.done (length c.args.a.now - 1 - c.loop-done.done) c.loop-done-test.true refl c.requires.same c.index-a-a.is
    (subst (λ ls. Divides c.args.gates.now c.loop-done.gates (180 * length c.args.a.now * c.loop-done.done) c.loop-done.quotient.items ls c.args.a.now
    c.args.b.now c.loop-done.done) (sym c.deref.ensures.value) c.loop-done.invariant)
    c.in_ok-fits.ensures c.in_ok-insert.ensures.items
