use Rattle.std.proofs.Common.{◌≡◌, ◌-◌, ◌+◌, length, None, Option, ℕ, ◌∙◌, ap}
use Rattle.std.proofs.lemmas.List.{length-replicate}
use Rattle.std.specs.FinMap.{empty}
use Rattle.vg_map.specs.Slots.{slots_of, map_of, IsTable}
use Rattle.vg_map.specs.Map.{Indices, FixedMap}
use Rattle.vg_map.proofs.Tables.{table_new, power_above, resized}
use Rattle.vg_map.proofs.fixed.HashMapFixed.with_seed.Goals as goal

-- the fields are a table's, and it stands for the empty map
table : (c : goal.In_ok-resize-2)
    → IsTable (record { mask = c.next_power_of_two-homes.result - 1; seed = c.args.seed }) c.args.key_len c.args.capacity 0 c.resize.new.self.items
    c.resize-2.new.self.items
    × (map_of (slots_of c.args.key_len c.resize.new.self.items c.resize-2.new.self.items) ≡ empty)
table c =
    let homes = c.next_power_of_two-homes.result in
    let product = rw c.in_ok-bytes.ensures.ok_part at c.checked_mul.ensures in
    let keys_are = resized c.in_ok-bytes.bytes c.new-keys.result.items c.resize.new.self.items _ 0 c.new-keys.ensures.items c.new-keys.ensures.len
    c.in_ok-resize.ensures.items in
    let indices_are = resized {A = Option ℕ} (homes + c.args.capacity) c.new-indices.result.items c.resize-2.new.self.items _ None
    c.new-indices.ensures.items c.new-indices.ensures.len c.in_ok-resize-2.ensures.items in
    table_new homes c.args.key_len c.args.capacity c.args.seed c.resize.new.self.items c.resize-2.new.self.items
    (power_above homes c.next_power_of_two-homes.ensures.power)
    (ap length keys_are ∙ length-replicate c.in_ok-bytes.bytes 0 ∙ product.1) indices_are

pub invariant_of-result : goal.invariant_of-result
invariant_of-result c = (table c).0

pub returns : goal.returns
returns c =
    let made : Indices → FixedMap = λ indices. record { indices = indices; capacity = c.args.capacity; key_len = c.args.key_len } in
    ap made (table c).1
