use Rattle.std.proofs.Common.{◌≡◌, ◌++◌, drop}
use Rattle.vg_ctok.specs.Comments.{blanked}
use Rattle.vg_ctok.proofs.comments.blanked.Given as goal

abbrev pub invariant-loop-at : goal.invariant-loop-at
invariant-loop-at l = l.shown.items ++ blanked l.left (drop l.at l.line) ≡ blanked 0 l.line
