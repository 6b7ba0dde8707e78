use Rattle.std.proofs.Common.{◌≡◌, ◌+◌, ◌<◌, length, set, Some, sym, ◌∙◌, ap, arith}
use Rattle.std.specs.FinMap as map
use Rattle.std.proofs.lemmas.List.{with_items_is}
use Rattle.std.specs.Vec.{with_items}
use Rattle.vg_map.specs.Hash.{home_of}
use Rattle.vg_map.specs.Map.{Indices, FixedMap, with_key}
use Rattle.vg_map.specs.Slots.{slots_of, map_of, IsTable}
use Rattle.vg_map.specs.Search.{EndsAt}
use Rattle.vg_map.proofs.SlotLists.{length-slots_of, written}
use Rattle.vg_map.proofs.Tables.{ends_in, written_in, written_fits, table_put, at_within, length-written}
use Rattle.vg_map.proofs.fixed.HashMapFixed.put.Goals as goal

pub write_key-requires : goal.write_key-requires
write_key-requires c =
    let a = c.self.inside in
    let long : length c.args.key.now ≡ a.key_len = c.requires.key_len ∙ sym (ap (λ m. m.key_len) c.self.view_is) in
    let within : c.find-at.result < length a.indices.items = omega (
      arith,
      c.find-at.ensures.within,
      length-slots_of (length c.args.key.now) c.deref.result.now c.deref-2.result.now,
      ap length c.deref-2.ensures.value,
    ) in
    written_fits a.key_len (length a.indices.items) c.find-at.result c.args.key.now a.keys.items c.deref_mut.result.now long c.self.invariant.bytes
    within c.deref_mut.ensures.value

pub index_mut-requires : goal.index_mut-requires
index_mut-requires c = omega (
  arith,
  c.find-at.ensures.within,
  length-slots_of (length c.args.key.now) c.deref.result.now c.deref-2.result.now,
  c.deref-2.ensures.len,
)

long : (c : goal.After-self-3-1) → length c.args.key.now ≡ c.self.inside.key_len
long c = c.requires.key_len ∙ sym (ap (λ m. m.key_len) c.self.view_is)

ends : (c : goal.After-self-3-1) → EndsAt (slots_of c.self.inside.key_len c.self.inside.keys.items c.self.inside.indices.items) c.args.key.now
    (home_of c.self.inside.homes c.args.key.now) c.find-at.result
ends c = ends_in c.self.inside.key_len c.self.inside.homes c.self.inside.keys.items c.deref.result.now c.self.inside.indices.items
    c.deref-2.result.now c.args.key.now c.of.result c.find-at.result
    c.deref.ensures.value c.deref-2.ensures.value (long c) c.of.ensures.home c.find-at.ensures

-- the block once the key has been written
keys_are : (c : goal.After-self-3-1) → (with_items c.self.inside.keys c.write_key.new.keys).items ≡ written c.self.inside.key_len
    c.self.inside.keys.items c.args.key.now c.find-at.result
keys_are c =
    let a = c.self.inside in
    let key = c.args.key.now in
    let at = c.find-at.result in
    let block = written_in a.key_len a.keys.items c.deref_mut.result.now key c.write_key.new.keys at (long c) c.deref_mut.ensures.value c.write_key.ensures in
    let within = at_within a.homes a.key_len a.capacity a.size a.keys.items a.indices.items key _ at (ends c) in
    with_items_is a.keys c.write_key.new.keys (ap length block ∙ length-written a.key_len a.keys.items key at (length a.indices.items) (long c)
    c.self.invariant.bytes within ∙ sym a.keys.ok.0) ∙ block

-- the new fields are a table's, and it stands for the map with the key
put : (c : goal.After-self-3-1)
    → IsTable c.self.inside.homes c.self.inside.key_len c.self.inside.capacity (c.self.inside.size + 1)
    (written c.self.inside.key_len c.self.inside.keys.items c.args.key.now c.find-at.result)
    (set c.self.inside.indices.items c.find-at.result (Some c.args.index))
    × (map_of (slots_of c.self.inside.key_len (written c.self.inside.key_len c.self.inside.keys.items c.args.key.now c.find-at.result)
    (set c.self.inside.indices.items c.find-at.result (Some c.args.index)))
    ≡ map.insert (map_of (slots_of c.self.inside.key_len c.self.inside.keys.items c.self.inside.indices.items)) c.args.key.now c.args.index)
put c =
    let a = c.self.inside in
    let room : a.size < a.capacity = omega (
      arith,
      c.requires.room,
      ap (λ m. map.len m.indices) c.self.view_is,
      ap (λ m. m.capacity) c.self.view_is,
      c.self.invariant.counted,
    ) in
    table_put a.homes a.key_len a.capacity a.size a.keys.items a.indices.items c.args.key.now c.find-at.result c.args.index c.self.invariant (ends c)
    (long c) room
    (ap (λ m. map.get m.indices c.args.key.now) c.self.view_is ∙ c.requires.absent)

pub invariant_of-self : goal.invariant_of-self
invariant_of-self c = rw (keys_are c) (put c).0

pub returns : goal.returns
returns c =
    let a = c.self.inside in
    let made : Indices → FixedMap = λ indices. record { indices = indices; capacity = a.capacity; key_len = a.key_len } in
    ap made (ap (λ keys. map_of (slots_of a.key_len keys (set a.indices.items c.find-at.result (Some c.args.index)))) (keys_are c) ∙ (put c).1)
    ∙ ap (λ m. with_key m c.args.key.now c.args.index) c.self.view_is
