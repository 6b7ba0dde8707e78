use Rattle.std.proofs.Common.{◌≡◌, drop}
use Rattle.vg_stok.specs.Comments.{close_from}
use Rattle.vg_stok.proofs.comments.close_from.Given as goal

abbrev pub invariant-loop-at : goal.invariant-loop-at
invariant-loop-at l = close_from l.at (drop l.at l.text) ≡ close_from l.from (drop l.from l.text)
