use Rattle.std.proofs.Common.{◌≡◌, drop}
use Rattle.vg_ctyper.specs.Types as types
use Rattle.vg_ctyper.specs.Views.{known}
use Rattle.vg_ctyper.proofs.given.Given.are_typed.Given as goal

abbrev pub invariant-loop-part : goal.invariant-loop-part
invariant-loop-part l = types.are_typed (known l.self) (drop l.part-index l.parts) ≡ types.are_typed (known l.self) l.parts
