use Rattle.std.proofs.Common.{◌≡◌, ◌-◌, length, set, None, sym, ◌∙◌, ap, arith}
use Rattle.std.specs.Option.{is_some}
use Rattle.std.specs.FinMap as map
use Rattle.std.proofs.lemmas.List.{with_items_is, length-set}
use Rattle.std.specs.Vec.{with_items, with_item}
use Rattle.vg_map.specs.Search.{ClosesGap}
use Rattle.vg_map.specs.Map.{Indices, FixedMap, without_key}
use Rattle.vg_map.specs.Slots.{slots_of, map_of, full_slots, IsTable}
use Rattle.vg_map.proofs.SlotLists.{length-slots_of}
use Rattle.vg_map.proofs.Tables.{ends_in, ends_at_full, size_above, table_gap, table_erase}
use Rattle.vg_map.proofs.fixed.HashMapFixed.erase.Goals as goal

pub index_mut-requires : goal.index_mut-requires
index_mut-requires c = omega (
  arith,
  c.find-at.ensures.within,
  length-slots_of (length c.args.key.now) c.deref.result.now c.deref-2.result.now,
  c.deref-2.ensures.len,
)

pub close_gap-requires-clause-within : goal.close_gap-requires-clause-within
close_gap-requires-clause-within c =
    omega (
      arith,
      c.find-at.ensures.within,
      length-slots_of (length c.args.key.now) c.deref.result.now c.deref-2.result.now,
      ap length c.deref-2.ensures.value,
      ap length c.deref_mut-2.ensures.value,
      length-set c.self.inside.indices.items c.find-at.result None,
    )

pub close_gap-requires-clause-gap : goal.close_gap-requires-clause-gap
close_gap-requires-clause-gap c =
    let a = c.self.inside in
    let at = c.find-at.result in
    let ends = ends_in a.key_len a.homes a.keys.items c.deref.result.now a.indices.items c.deref-2.result.now c.args.key.now c.of.result at
    c.deref.ensures.value c.deref-2.ensures.value
    (c.requires.key_len ∙ sym (ap (λ m. m.key_len) c.self.view_is)) c.of.ensures.home c.find-at.ensures in
    rw (c.deref_mut.ensures.value, c.deref_mut-2.ensures.value) (table_gap a.homes a.key_len a.capacity a.size a.keys.items a.indices.items
    c.args.key.now at c.self.invariant ends)

pub overflow_sub-self : goal.overflow_sub-self
overflow_sub-self c =
    let a = c.self.inside in
    let key = c.args.key.now in
    let at = c.find-at.result in
    let ends = ends_in a.key_len a.homes a.keys.items c.deref.result.now a.indices.items c.deref-2.result.now key c.of.result at c.deref.ensures.value
    c.deref-2.ensures.value
    (c.requires.key_len ∙ sym (ap (λ m. m.key_len) c.self.view_is)) c.of.ensures.home c.find-at.ensures in
    let full = ends_at_full a.homes a.key_len a.capacity a.size a.keys.items a.indices.items key at c.self.invariant ends
    (ap (λ m. is_some (map.get m.indices key)) c.self.view_is ∙ c.requires.present) in
    omega (arith, size_above a.homes a.key_len a.capacity a.size a.keys.items a.indices.items at c.self.invariant full)

-- what the closing of the gap leaves, by the fields
closed : (c : goal.After-self-4-1)
    → ClosesGap c.self.inside.homes (slots_of c.self.inside.key_len c.self.inside.keys.items (set c.self.inside.indices.items c.find-at.result None))
    (slots_of c.self.inside.key_len c.close_gap.new.keys c.close_gap.new.indices)
closed c = rw (c.deref_mut.ensures.value, c.deref_mut-2.ensures.value) at c.close_gap.ensures.closed

same_indices : (c : goal.After-self-4-1) → length c.close_gap.new.indices ≡ length (set c.self.inside.indices.items c.find-at.result None)
same_indices c = c.close_gap.ensures.slots ∙ ap length c.deref_mut-2.ensures.value

same_bytes : (c : goal.After-self-4-1) → length c.close_gap.new.keys ≡ length c.self.inside.keys.items
same_bytes c = c.close_gap.ensures.bytes ∙ ap length c.deref_mut.ensures.value

keys_are : (c : goal.After-self-4-1) → (with_items c.self.inside.keys c.close_gap.new.keys).items ≡ c.close_gap.new.keys
keys_are c = with_items_is c.self.inside.keys c.close_gap.new.keys (same_bytes c ∙ sym c.self.inside.keys.ok.0)

indices_are : (c : goal.After-self-4-1) → (with_items (with_item c.self.inside.indices c.find-at.result None) c.close_gap.new.indices).items ≡
    c.close_gap.new.indices
indices_are c = with_items_is (with_item c.self.inside.indices c.find-at.result None) c.close_gap.new.indices
    (same_indices c ∙ length-set c.self.inside.indices.items c.find-at.result None ∙ sym c.self.inside.indices.ok.0)

-- the new fields are a table's, and it stands for the map without the key
erased : (c : goal.After-self-4-1)
    → IsTable c.self.inside.homes c.self.inside.key_len c.self.inside.capacity (c.self.inside.size - 1) c.close_gap.new.keys c.close_gap.new.indices
    × (map_of (slots_of c.self.inside.key_len c.close_gap.new.keys c.close_gap.new.indices) ≡ map.remove
    (map_of (slots_of c.self.inside.key_len c.self.inside.keys.items c.self.inside.indices.items)) c.args.key.now)
erased c =
    let a = c.self.inside in
    let key = c.args.key.now in
    let at = c.find-at.result in
    let ends = ends_in a.key_len a.homes a.keys.items c.deref.result.now a.indices.items c.deref-2.result.now key c.of.result at c.deref.ensures.value
    c.deref-2.ensures.value
    (c.requires.key_len ∙ sym (ap (λ m. m.key_len) c.self.view_is)) c.of.ensures.home c.find-at.ensures in
    table_erase a.homes a.key_len a.capacity a.size a.keys.items a.indices.items key at c.close_gap.new.keys c.close_gap.new.indices c.self.invariant ends
    (ap (λ m. is_some (map.get m.indices key)) c.self.view_is ∙ c.requires.present) (closed c)
    (c.close_gap.ensures.full ∙ ap full_slots c.deref_mut-2.ensures.value) (same_indices c) (same_bytes c)

pub invariant_of-self : goal.invariant_of-self
invariant_of-self c = rw (keys_are c, indices_are c) (erased c).0

pub returns : goal.returns
returns c =
    let a = c.self.inside in
    let made : Indices → FixedMap = λ indices. record { indices = indices; capacity = a.capacity; key_len = a.key_len } in
    ap made (ap (λ keys. map_of (slots_of a.key_len keys (with_items (with_item a.indices c.find-at.result None) c.close_gap.new.indices).items)) (keys_are c)
    ∙ ap (λ indices. map_of (slots_of a.key_len c.close_gap.new.keys indices)) (indices_are c) ∙ (erased c).1)
    ∙ ap (λ m. without_key m c.args.key.now) c.self.view_is
