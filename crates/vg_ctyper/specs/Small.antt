-- How large what a note speaks of may be.
use Rattle.std.specs.Prelude.{◌≡◌, ℕ, ◌≤◌, List, slice_get, Some}
use Rattle.vg_core.specs.Layouts.{layout}
use Rattle.vg_core.specs.declared.types.CType.{CType}
use Rattle.vg_core.specs.declared.unit.Note.{Note}

-- an object of a type that a note has takes at most 65,536 bytes
abbrev pub AreSmall : List Note → Type 0
AreSmall notes = (n : ℕ) (note : Note) (type : CType) → slice_get notes n ≡ Some note → note.of ≡ Some type → (layout notes type).size ≤ 65536
