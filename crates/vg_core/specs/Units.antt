-- What contracts see of a typed C text.
use Rattle.std.specs.Prelude.{ℕ, List}
use Rattle.vg_core.specs.Syntax.{Syntax}
use Rattle.vg_core.specs.declared.unit.Note.{Note}

-- the bytes of the text, its tree, and a note for each node
pub record Typed : Type 0 where
  pub text : List ℕ
  pub tree : Syntax
  pub notes : List Note
