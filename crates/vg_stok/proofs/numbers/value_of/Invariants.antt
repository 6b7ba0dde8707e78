use Rattle.std.proofs.Common.{◌≡◌, ◌<◌, drop}
use Rattle.vg_stok.specs.Numbers.{value_on}
use Rattle.vg_stok.proofs.numbers.value_of.Given as goal

abbrev pub invariant-loop-b : goal.invariant-loop-b
invariant-loop-b l = record {
  below : l.value < 18446744073709551616;
  rest : value_on l.base l.value (drop l.b-index l.digits) ≡ value_on l.base 0 l.digits;
}
