use Rattle.std.proofs.Common.{ℕ, ◌≡◌, List, map, Some, None}
use Rattle.std.specs.FinMap.{get}
use Rattle.vg_abs.specs.Agreement.{BothTell}
use Rattle.vg_store.proofs.Counting.{in_list}
use Rattle.vg_store.proofs.telling.are_listed.Given as goal

abbrev pub invariant-loop-key : goal.invariant-loop-key
invariant-loop-key l = (key : List ℕ) → in_list key (map (λ entry. (entry.0.items, entry.1)) l.key-iterator) ≡ None
    → BothTell (Some (get l.keys.indices key)) (get l.table key)
