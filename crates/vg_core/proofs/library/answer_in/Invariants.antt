use Rattle.std.proofs.Common.{◌≡◌, ◌+◌, map, drop}
use Rattle.vg_core.specs.Library.{answer_from}
use Rattle.vg_core.proofs.library.answer_in.Given as goal

abbrev pub invariant-loop-row : goal.invariant-loop-row
invariant-loop-row l =
    (l.number ≡ l.row-index + 1)
    × (answer_from (l.row-index + 1) (map (λ row. (row.0.now, row.1, row.2.now)) (drop l.row-index l.table)) l.wanted ≡ answer_from 1
    (map (λ row. (row.0.now, row.1, row.2.now)) l.table) l.wanted)
