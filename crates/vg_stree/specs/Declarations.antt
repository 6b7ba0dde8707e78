-- What contracts see of what a specification declares, and how many bytes that takes.
use Rattle.std.specs.Prelude.{ℕ, List, [], ◌∷◌, ◌++◌, sum_by, take, slice_get, Option, Some, None}
use Rattle.vg_stree.specs.declared.shape.Width.{Width}
use Rattle.vg_stree.specs.declared.shape.Width.TheVariants.{Bits8, Bits16, Bits32, Bits64}
use Rattle.vg_stree.specs.declared.shape.Number.{Number}
use Rattle.vg_stree.specs.declared.shape.FieldType.{FieldType}
use Rattle.vg_stree.specs.declared.shape.FieldType.TheVariants as types
use Rattle.vg_stree.specs.declared.shape.Field.{Field}
use Rattle.vg_stree.specs.declared.shape.Struct.{Struct}
use Rattle.vg_stree.specs.declared.shape.Object.{Object}
use Rattle.vg_stree.specs.declared.shape.Rule.{Rule}
use Rattle.vg_stree.specs.Syntax.{listed}

-- how many ports there are; the numbers that a configuration gives, the structs, and the fields of all structs; the objects of the
-- library, in order of declaration; the rules, and the premises by their expressions' numbers
pub record Declarations : Type 0 where
  pub ports : ℕ
  pub numbers : List Number
  pub structs : List Struct
  pub fields : List Field
  pub objects : List Object
  pub rules : List Rule
  pub premises : List ℕ

-- so many ports and nothing else
abbrev pub empty_shape : ℕ → Declarations
empty_shape ports = record { ports = ports; numbers = []; structs = []; fields = []; objects = []; rules = []; premises = [] }

-- one number more
abbrev pub with_number : Declarations → Number → Declarations
with_number shape number = record shape { numbers = shape.numbers ++ number ∷ [] }

-- one struct more
abbrev pub with_struct : Declarations → Struct → Declarations
with_struct shape declared = record shape { structs = shape.structs ++ declared ∷ [] }

-- one field more
abbrev pub with_field : Declarations → Field → Declarations
with_field shape field = record shape { fields = shape.fields ++ field ∷ [] }

-- one object more
abbrev pub with_object : Declarations → Object → Declarations
with_object shape object = record shape { objects = shape.objects ++ object ∷ [] }

-- one rule more
abbrev pub with_rule : Declarations → Rule → Declarations
with_rule shape rule = record shape { rules = shape.rules ++ rule ∷ [] }

-- one premise more
abbrev pub with_premise : Declarations → ℕ → Declarations
with_premise shape value = record shape { premises = shape.premises ++ value ∷ [] }

-- how many bytes a number takes
abbrev pub width_bytes : Width → ℕ
width_bytes Bits8 = 1
width_bytes Bits16 = 2
width_bytes Bits32 = 4
width_bytes Bits64 = 8

-- how many bytes a field takes
abbrev pub field_bytes : FieldType → ℕ
field_bytes (types.Number width) = width_bytes width
field_bytes (types.Bytes count) = count

-- the fields of a struct that may be there
abbrev pub fields_in : List Field → Option Struct → List Field
fields_in fields None = []
fields_in fields (Some declared) = listed fields declared.fields

-- the fields of a struct, by its number in order of declaration; none where there is no such struct
abbrev pub fields_of : Declarations → ℕ → List Field
fields_of shape number = fields_in shape.fields (slice_get shape.structs number)

-- how many bytes fields take, one behind the other
abbrev pub bytes_of : List Field → ℕ
bytes_of fields = sum_by (λ field. field_bytes field.of) fields

-- how many bytes a struct takes
abbrev pub struct_bytes : Declarations → ℕ → ℕ
struct_bytes shape number = bytes_of (fields_of shape number)

-- the place of a field in its struct, in bytes: behind the fields before it
abbrev pub field_place : Declarations → ℕ → ℕ → ℕ
field_place shape number field = bytes_of (take field (fields_of shape number))
