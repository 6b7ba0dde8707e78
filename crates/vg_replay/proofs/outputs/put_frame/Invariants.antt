use Rattle.std.proofs.Common.{◌≡◌, ℕ, List, Ok}
use Rattle.vg_replay.specs.View.{view}
use Rattle.vg_replay.specs.Writing.{Puts, pieces_of}
use Rattle.vg_replay.proofs.outputs.put_frame.Given as goal

abbrev pub invariant-loop-port : goal.invariant-loop-port
invariant-loop-port g l =
    (l.captures.items ≡ l.initial.captures.items)
    × ((came : List ℕ) → Puts (g.F.Files.disk l.initial.files) (g.F.Files.disk l.files) l.initial.captures.items (pieces_of (view l.frame came)) l.port (Ok tt))
