use Rattle.std.proofs.Common.{◌≡◌, ◌≤◌, ◌+◌, ◌*◌, ◌++◌, length, take}
use Rattle.std.specs.List.{flat_map}
use Rattle.vg_replay.specs.Outputs.{handed_text}
use Rattle.vg_replay.proofs.lines.push_handed.Given as goal

abbrev pub invariant-loop-i : goal.invariant-loop-i
invariant-loop-i l =
    (l.line.bytes ≡ l.initial.line.bytes ++ flat_map handed_text (take l.i-index l.initial.handed))
    × (length l.line.bytes ≤ length l.initial.line.bytes + 26 * l.i-index) × (l.i-index ≤ length l.initial.handed)
