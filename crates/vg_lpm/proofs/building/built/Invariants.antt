use Rattle.std.proofs.Common.{◌≡◌, ℕ, ◌*◌, ◌^◌, ◌<◌, ◌≤◌, vec_len}
use Rattle.vg_lpm.specs.Table.{walk, IsTable}
use Rattle.vg_lpm.specs.Building.{passes}
use Rattle.vg_lpm.proofs.building.built.Given as goal

abbrev pub invariant-loop-len : goal.invariant-loop-len
invariant-loop-len l = record {
  table : IsTable l.levels.first.items l.levels.second.items l.levels.third.items;
  second_room : vec_len l.levels.second ≤ 16777216 * l.len;
  third_room : vec_len l.levels.third ≤ 16777216 * l.len;
  answers : (address : ℕ) → address < 2 ^ 32 → walk l.levels.first.items l.levels.second.items l.levels.third.items address ≡ passes l.len l.routes address;
}
