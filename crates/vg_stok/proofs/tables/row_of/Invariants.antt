use Rattle.std.proofs.Common.{◌≡◌, map, drop}
use Rattle.vg_stok.specs.Tables.{row_of}
use Rattle.vg_stok.proofs.tables.row_of.Given as goal

abbrev pub invariant-loop-row : goal.invariant-loop-row
invariant-loop-row g l = row_of (map (λ e. (e.0.now, e.1)) (drop l.row-index l.rows)) l.word ≡ row_of (map (λ e. (e.0.now, e.1)) l.rows) l.word
