use Rattle.std.proofs.Common.{◌≡◌, false, length, replicate, take}
use Rattle.vg_blast.specs.Marking.{marked}
use Rattle.vg_blast.proofs.marking.starts.Given as goal

-- marks on those read so far
abbrev pub invariant-loop-id : goal.invariant-loop-id
invariant-loop-id l = l.marks.items ≡ marked (replicate (length l.terms) false) (take l.id-index l.from)
