use Rattle.std.proofs.Common.{◌/◌, ◌<◌, length, ◌-◌, arith}
use Rattle.vg_lpm.proofs.Insertion.{fits_first, fits_block, place_within, table_third, taken_first, taken_second, taken_third}
use Rattle.vg_lpm.proofs.inserting.insert.Goals as goal

pub fill-requires-clause-within : goal.fill-requires-clause-within
fill-requires-clause-within c =
    let first = c.args.levels.now.first in
    let run = fits_first c.args.route.now.address c.args.route.now.len c.from-len.result (omega arith) c.from-len.ensures c.if-len-le16.true in
    omega (arith, first.ok.0, c.requires.table.all_addresses)

pub returns-then-len-le16-clause-taken : goal.returns-then-len-le16-clause-taken
returns-then-len-le16-clause-taken c =
    taken_first c.args.route.now c.from-len.result c.leaf_with-word.result c.requires.table (omega arith) c.from-len.ensures c.if-len-le16.true
    c.leaf_with-word.ensures.value c.leaf_with-word.ensures.below c.fill.ensures

pub fill-requires-then-len-le24-clause-within : goal.fill-requires-then-len-le24-clause-within
fill-requires-then-len-le24-clause-within c =
    let lower = c.open.new.lower in
    let run = fits_block c.place-at.result (c.args.route.now.address / 256) (24 - c.from-len.result) c.in_ok-block.ensures
    (omega (arith, c.requires.table.all_addresses)) c.place-at.ensures (omega arith) in
    omega (arith, lower.ok.0)

pub returns-then-len-le24-clause-taken : goal.returns-then-len-le24-clause-taken
returns-then-len-le24-clause-taken c =
    taken_second c.args.route.now c.from-len.result c.leaf_with-word.result c.place-at.result c.requires.table (omega arith) c.from-len.ensures
    c.if-len-le16.false c.if-len-le24.true
    c.leaf_with-word.ensures.value c.leaf_with-word.ensures.below c.place-at.ensures c.in_ok-block.ensures c.fill-then-len-le24.ensures

pub fill-requires-2-clause-within : goal.fill-requires-2-clause-within
fill-requires-2-clause-within c =
    let lower = c.open-2.new.lower in
    let first : c.args.route.now.address / 65536 < length c.args.levels.now.first.items = omega (arith, c.requires.table.all_addresses) in
    let within = place_within c.place-at.result (c.args.route.now.address / 256) c.in_ok-block.ensures first c.place-at.ensures in
    let run = fits_block c.place.result c.args.route.now.address (32 - c.from-len.result) c.in_ok-block-2.ensures within c.place.ensures (omega arith) in
    omega (arith, lower.ok.0)

pub returns-clause-table : goal.returns-clause-table
returns-clause-table c = table_third c.requires.table c.in_ok-block.ensures c.in_ok-block-2.ensures c.fill-2.ensures c.leaf_with-word.ensures.below

pub returns-clause-taken : goal.returns-clause-taken
returns-clause-taken c =
    taken_third c.args.route.now c.from-len.result c.leaf_with-word.result c.place-at.result c.place.result c.requires.table (omega arith)
    c.from-len.ensures c.if-len-le24.false (omega arith)
    c.leaf_with-word.ensures.value c.leaf_with-word.ensures.below c.place-at.ensures c.place.ensures c.in_ok-block.ensures c.in_ok-block-2.ensures
    c.fill-2.ensures
