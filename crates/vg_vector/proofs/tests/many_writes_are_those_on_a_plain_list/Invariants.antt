use Rattle.std.proofs.Common.{◌≡◌, length}
use Rattle.vg_vector.proofs.tests.many_writes_are_those_on_a_plain_list.Given as goal

abbrev pub invariant-loop-k : goal.invariant-loop-k
invariant-loop-k g l = record { size : l.cells.size ≡ 5; count : length l.cells.cells ≡ 7; plain : length l.plain.items ≡ 7 }

abbrev pub invariant-loop-step : goal.invariant-loop-step
invariant-loop-step g l = record { size : l.cells.size ≡ 5; count : length l.cells.cells ≡ 7; plain : length l.plain.items ≡ 7 }
