use Rattle.std.proofs.Common.{◌≡◌, drop}
use Rattle.vg_ctyper.specs.Notes as notes
use Rattle.vg_ctyper.specs.Views.{known}
use Rattle.vg_ctyper.proofs.given.Given.sum_of_steps.Given as goal

abbrev pub invariant-loop-part : goal.invariant-loop-part
invariant-loop-part l = notes.sum_from (known l.self) l.sum (drop l.part-index l.parts) ≡ notes.sum_of_steps (known l.self) l.parts
