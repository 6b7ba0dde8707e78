use Rattle.std.proofs.Common.{◌≡◌, ℕ, ◌+◌, ◌*◌, ◌^◌, ◌<◌, ◌≤◌, drop, vec_len}
use Rattle.vg_lpm.specs.Table.{walk, IsTable}
use Rattle.vg_lpm.specs.Building.{passed}
use Rattle.vg_lpm.proofs.building.insert_all.Given as goal

abbrev pub invariant-loop-route : goal.invariant-loop-route
invariant-loop-route l = record {
  table : IsTable l.levels.first.items l.levels.second.items l.levels.third.items;
  second_room : vec_len l.levels.second ≤ 16777216 * l.len + 256 * l.route-index;
  third_room : vec_len l.levels.third ≤ 16777216 * l.len + 256 * l.route-index;
  ahead : (address : ℕ) → address < 2 ^ 32 → passed l.len (drop l.route-index l.routes) address
      (walk l.levels.first.items l.levels.second.items l.levels.third.items address)
      ≡ passed l.len l.routes address (walk l.initial.levels.first.items l.initial.levels.second.items l.initial.levels.third.items address);
}
