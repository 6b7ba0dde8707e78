use Rattle.std.proofs.Common.{◌≡◌, ◌≤◌, ◌+◌, drop}
use Rattle.vg_cfront.specs.Places.{start, behind}
use Rattle.vg_cfront.proofs.places.end_of.Given as goal

abbrev pub invariant-loop-b : goal.invariant-loop-b
invariant-loop-b l = (behind l.here (drop l.b-index l.bytes) ≡ behind start l.bytes) × (1 ≤ l.here.column) × (l.here.line + l.here.column ≤ l.b-index + 2)
