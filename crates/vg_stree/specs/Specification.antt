-- What contracts see of a specification.
use Rattle.std.specs.Prelude.{ℕ, ◌==◌, List, [], slice_get, Option, Some, None, Bool, ◌&&◌, not}
use Rattle.std.specs.List.{list_any}
use Rattle.std.specs.Str.{bytes_eq}
use Rattle.vg_stree.specs.declared.code.Parts.{Parts}
use Rattle.vg_stree.specs.declared.shape.Field.{Field}
use Rattle.vg_stree.specs.declared.shape.Object.{Object}
use Rattle.vg_stree.specs.Names.{Name, spelled_at}
use Rattle.vg_stree.specs.Declarations.{Declarations}
use Rattle.vg_stree.specs.Syntax.{Syntax}

-- the names that it declares, what they are, its expressions and statements, and where the block of its step stands
pub record Specification : Type 0 where
  pub names : List Name
  pub shape : Declarations
  pub code : Syntax
  pub step : Parts

-- how what is declared at an object's place is spelled
abbrev pub spelled_object : List Name → Option Object → List ℕ
spelled_object names None = []
spelled_object names (Some object) = spelled_at names object.at

-- the name of an object, by its number in order of declaration; no bytes where there is no such object
abbrev pub name_of_object : Specification → ℕ → List ℕ
name_of_object spec object = spelled_object spec.names (slice_get spec.shape.objects object)

-- a field's name stands at a place
abbrev pub is_field : List Field → ℕ → Bool
is_field fields at = list_any (λ field. field.at == at) fields

-- a word is the name of a declaration: of a number, a struct, an object or a define, but not of a field
abbrev pub declares : Specification → List ℕ → Bool
declares spec word = list_any (λ name. bytes_eq name.spelled word && not (is_field spec.shape.fields name.at)) spec.names
