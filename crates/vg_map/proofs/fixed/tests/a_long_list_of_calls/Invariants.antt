use Rattle.std.proofs.Common.{◌≡◌}
use Rattle.vg_map.proofs.fixed.tests.a_long_list_of_calls.Given as goal

abbrev pub invariant-loop-other : goal.invariant-loop-other
invariant-loop-other g l = record { capacity : l.map.capacity ≡ 12; key_len : l.map.key_len ≡ 13 }

abbrev pub invariant-loop-call : goal.invariant-loop-call
invariant-loop-call g l = record { capacity : l.map.capacity ≡ 12; key_len : l.map.key_len ≡ 13 }
