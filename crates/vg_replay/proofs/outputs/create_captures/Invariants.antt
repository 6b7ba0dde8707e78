use Rattle.std.proofs.Common.{◌≡◌, length, map, string_bytes, vec_capacity}
use Rattle.vg_replay.specs.Writing.{HasCreated}
use Rattle.vg_replay.proofs.outputs.create_captures.Given as goal

abbrev pub invariant-loop-out : goal.invariant-loop-out
invariant-loop-out g l =
    HasCreated (g.F.Files.disk l.initial.files) (g.F.Files.disk l.files) (map string_bytes l.outs) l.captures.items
    × (length l.captures.items ≡ l.out-index) × (vec_capacity l.captures ≡ vec_capacity l.initial.captures)
