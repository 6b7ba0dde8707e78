use Rattle.std.proofs.Common.{map}
use Rattle.vg_store.specs.RealTables.{indexed}
use Rattle.vg_store.proofs.Counting.{Counted}
use Rattle.vg_store.proofs.telling.lists.Given as goal

abbrev pub invariant-loop-key : goal.invariant-loop-key
invariant-loop-key l = Counted l.fn.count (indexed l.table) l.left (map (λ entry. (entry.0.items, entry.1)) l._key-iterator)
