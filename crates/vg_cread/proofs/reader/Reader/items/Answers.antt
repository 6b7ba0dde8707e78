use Rattle.std.proofs.Common.{[]}
use Rattle.std.proofs.lemmas.Result.{err_from_is_err_and}
use Rattle.vg_cread.specs.Kinds.{any_token}
use Rattle.vg_cread.specs.Grammar.{items, item}
use Rattle.vg_cread.specs.Reading.{reads, next}
use Rattle.vg_cread.proofs.Loops.{refused_by, listing_same, listing_smaller, listing_turned, listing_failed, items_init, item_eats, some_passes}
use Rattle.vg_cread.proofs.reader.Reader.items.Goals as goal

pub loop-parts-init : goal.loop-parts-init
loop-parts-init c =
    listing_same c.args.src any_token item [] c.new-parts.result.items c.args.self.now (reads c.args.src items c.args.self.now)
    c.new-parts.ensures.items (items_init c.args.src c.args.self.now)

pub returns-in_err-item : goal.returns-in_err-item
returns-in_err-item c =
    let so = some_passes (next c.args.src c.loop-parts.self) c.next.result c.is_some.result c.next.ensures c.is_some.ensures c.loop-parts-test.true in
    let p = err_from_is_err_and c.from_residual.result c.from_residual.ensures.1 in
    rw (p.1, p.2) (refused_by c.in_err-item.field-0.0 c.item.new.self (reads c.args.src item c.loop-parts.self) (reads c.args.src items c.args.self.now)
    (λ f is. listing_failed c.args.src any_token item c.loop-parts.parts.items c.loop-parts.self (reads c.args.src items c.args.self.now) f
    c.loop-parts.invariant so is) c.in_err-item.ensures)

pub loop-parts-smaller : goal.loop-parts-smaller
loop-parts-smaller c =
    let so = some_passes (next c.args.src c.loop-parts.self) c.next.result c.is_some.result c.next.ensures c.is_some.ensures c.loop-parts-test.true in
    listing_smaller c.args.src any_token item c.loop-parts.self c.in_ok-item.field-0 c.item.new.self item_eats so c.in_ok-item.ensures

pub loop-parts-preserved : goal.loop-parts-preserved
loop-parts-preserved c =
    let so = some_passes (next c.args.src c.loop-parts.self) c.next.result c.is_some.result c.next.ensures c.is_some.ensures c.loop-parts-test.true in
    listing_turned c.args.src any_token item c.loop-parts.parts.items c.push.new.self.items c.loop-parts.self (reads c.args.src items c.args.self.now)
    c.in_ok-item.field-0 c.item.new.self
    c.loop-parts.invariant item_eats so c.in_ok-item.ensures c.in_ok-push.ensures.items
