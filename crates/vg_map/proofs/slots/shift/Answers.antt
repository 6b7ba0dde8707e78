use Rattle.std.proofs.Common.{get_or, length, None, set, ◌∙◌, ap}
use Rattle.vg_map.specs.Slots.{slots_of}
use Rattle.vg_map.proofs.SlotLists.{slots_of-shift, shifted_keys, some_of}
use Rattle.vg_map.proofs.slots.shift.Goals as goal

pub returns-clause-slots : goal.returns-clause-slots
returns-clause-slots c =
    let full = some_of (get_or c.args.indices.now c.args.from None) c.requires.full in
    let halves = c.split_at_mut-front.ensures in
    let block = shifted_keys c.args.key_len c.args.keys.now c.split_at_mut-front.result.0.now c.split_at_mut-front.result.1.now c.write_key.new.keys
    c.args.from c.args.to
    (length c.args.indices.now) c.requires.bytes c.requires.order c.requires.within halves.front halves.back c.write_key.ensures in
    ap (λ keys. slots_of c.args.key_len keys (set (set c.args.indices.now c.args.to (get_or c.args.indices.now c.args.from None)) c.args.from None)) block
    ∙ slots_of-shift c.args.key_len c.args.keys.now c.args.indices.now c.args.from c.args.to full.0 c.requires.bytes c.requires.order c.requires.within full.1
