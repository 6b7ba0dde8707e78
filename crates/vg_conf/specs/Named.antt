-- Which declared number, object or field a word names.
use Rattle.std.specs.Prelude.{ℕ, ◌+◌, List, [], ◌∷◌, Bool, true, false, ◌&&◌, Option, Some, None, if◌then◌else◌}
use Rattle.std.specs.Str.{bytes_eq}
use Rattle.vg_stree.specs.Names.{Name, spelled_at}
use Rattle.vg_stree.specs.declared.shape.ObjectKind.{ObjectKind}
use Rattle.vg_stree.specs.declared.shape.ObjectKind.TheVariants as kinds
use Rattle.vg_stree.specs.Declarations.{fields_of}
use Rattle.vg_stree.specs.Specification.{Specification}

-- the place of the first that passes a test, counted from a number on
abbrev pub first_from : {X : Type 0} → (X → Bool) → ℕ → List X → Option ℕ
first_from test place [] = None
first_from test place (x ∷ xs) = if test x then Some place else first_from test (place + 1) xs

-- a word isn't empty
abbrev pub has_bytes : List ℕ → Bool
has_bytes [] = false
has_bytes (byte ∷ bytes) = true

-- a word is the name that is declared at a place
abbrev pub is_named : List Name → ℕ → List ℕ → Bool
is_named names at word = has_bytes word && bytes_eq (spelled_at names at) word

-- an object is a prefix table
abbrev pub is_table : ObjectKind → Bool
is_table (kinds.Table low high) = true
is_table _ = false

-- an object is a vector of its own
abbrev pub is_vector : ObjectKind → Bool
is_vector (kinds.Vector cell count) = true
is_vector _ = false

-- the declared number with a name, by its place
abbrev pub number_named : Specification → List ℕ → Option ℕ
number_named spec word = first_from (λ number. is_named spec.names number.at word) 0 spec.shape.numbers

-- the prefix table with a name, by its number among the objects
abbrev pub table_named : Specification → List ℕ → Option ℕ
table_named spec word = first_from (λ object. is_table object.kind && is_named spec.names object.at word) 0 spec.shape.objects

-- the vector of its own with a name, by its number among the objects
abbrev pub vector_named : Specification → List ℕ → Option ℕ
vector_named spec word = first_from (λ object. is_vector object.kind && is_named spec.names object.at word) 0 spec.shape.objects

-- the field of a struct with a name, by its place
abbrev pub field_named : Specification → ℕ → List ℕ → Option ℕ
field_named spec struct word = first_from (λ field. is_named spec.names field.at word) 0 (fields_of spec.shape struct)
