use Rattle.std.proofs.Common.{ℕ, ◌≡◌, List, map, Some, None}
use Rattle.std.specs.Ordering.{nat_cmp}
use Rattle.std.specs.Cmp.Lexicographic.{slice_cmp}
use Rattle.std.specs.FinMap.{get, find}
use Rattle.vg_abs.specs.Agreement.{BothTell}
use Rattle.vg_plain.specs.PlainTables.{key_table, joined}
use Rattle.vg_plain.proofs.telling.are_listed.Given as goal

abbrev pub invariant-loop-key : goal.invariant-loop-key
invariant-loop-key l = (key : List ℕ) → find (slice_cmp nat_cmp) key (map (λ entry. (entry.0.items, entry.1)) l.key-iterator) ≡ None
    → BothTell (Some (joined (get (key_table l.indices l.keys.cells) key))) (get l.table key)
