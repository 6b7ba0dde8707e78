use Rattle.std.proofs.Common.{◌≡◌}
use Rattle.vg_map.proofs.fixed.tests.four_of_eight_are_left.Given as goal

abbrev pub invariant-loop-number : goal.invariant-loop-number
invariant-loop-number g l = record { capacity : l.map.capacity ≡ 8; key_len : l.map.key_len ≡ 13 }

abbrev pub invariant-loop-number-2 : goal.invariant-loop-number-2
invariant-loop-number-2 g l = l.map.key_len ≡ 13

abbrev pub invariant-loop-number-3 : goal.invariant-loop-number-3
invariant-loop-number-3 g l = l.map-inside.key_len ≡ 13
