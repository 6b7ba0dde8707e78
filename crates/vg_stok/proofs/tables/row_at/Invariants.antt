use Rattle.std.proofs.Common.{◌≡◌, map, drop}
use Rattle.vg_stok.specs.Tables.{row_at}
use Rattle.vg_stok.proofs.tables.row_at.Given as goal

abbrev pub invariant-loop-row : goal.invariant-loop-row
invariant-loop-row g l = row_at (map (λ e. (e.0.now, e.1)) (drop l.row-index l.rows)) l.text ≡ row_at (map (λ e. (e.0.now, e.1)) l.rows) l.text
