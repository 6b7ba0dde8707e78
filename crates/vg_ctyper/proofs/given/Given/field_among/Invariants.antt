use Rattle.std.proofs.Common.{◌≡◌, drop}
use Rattle.vg_ctyper.specs.Names as names
use Rattle.vg_ctyper.specs.Views.{known}
use Rattle.vg_ctyper.proofs.given.Given.field_among.Given as goal

abbrev pub invariant-loop-field : goal.invariant-loop-field
invariant-loop-field l = names.field_among (known l.self) l.name (drop l.field-index l.fields) ≡ names.field_among (known l.self) l.name l.fields
