use Rattle.std.proofs.Common.{◌*◌, ◌%◌, ◌^◌, length, take, cond, sym, subst}
use Rattle.vg_blast.specs.Circuits.{MakesWord, number, truth}
use Rattle.vg_blast.proofs.Products.{product_none, product_more}
use Rattle.vg_blast.proofs.multiplying.product.Goals as goal

pub loop-at-init : goal.loop-at-init
loop-at-init c = product_none c.args.gates.now c.args.a.now c.args.b.now c.in_ok-product.product.items c.falsity.result c.falsity.ensures.stood
    c.falsity.ensures.literal c.in_ok-product.ensures

pub loop-at-preserved : goal.loop-at-preserved
loop-at-preserved c =
    product_more c.args.gates.now c.loop-at.gates c.row.new.gates c.sum.new.gates c.args.a.now c.args.b.now c.deref.result.now
    c.deref-in-loop-at.result.now c.in_ok-product-2.product.items c.index-a-at.result c.loop-at.at (length c.args.a.now)
    c.loop-at-test.true c.requires.same c.index-a-at.is
    (subst (λ ls. MakesWord c.args.gates.now c.loop-at.gates (108 * length c.args.a.now * c.loop-at.at) ls (length c.args.a.now)
    (λ v. (number v (take c.loop-at.at c.args.a.now) * number v c.args.b.now) % 2 ^ length c.args.a.now))
    (sym c.deref.ensures.value) c.loop-at.invariant)
    (subst (λ ls. MakesWord c.loop-at.gates c.row.new.gates (36 * length c.args.b.now) ls (length c.args.b.now)
    (λ v. cond (truth v c.index-a-at.result) ((number v c.args.b.now * 2 ^ c.loop-at.at) % 2 ^ length c.args.b.now) 0))
    (sym c.deref-in-loop-at.ensures.value) c.in_ok-row.ensures)
    c.in_ok-product-2.ensures
