-- The fields of a struct as bytes: they stand in order without gaps. Numbers have their lowest byte first, and byte fields their highest.
use Rattle.std.specs.Prelude.{ℕ, zero, suc, ◌+◌, ◌*◌, ◌/◌, ◌%◌, ◌^◌, List, [], ◌∷◌, ◌++◌, fold, take, drop, reverse}
use Rattle.vg_stree.specs.declared.shape.FieldType.{FieldType}
use Rattle.vg_stree.specs.declared.shape.FieldType.TheVariants as types
use Rattle.vg_stree.specs.declared.shape.Field.{Field}
use Rattle.vg_stree.specs.Declarations.{field_bytes}

-- the number of bytes, the lowest first
abbrev pub number_from_low : List ℕ → ℕ
number_from_low [] = 0
number_from_low (byte ∷ bytes) = byte + 256 * number_from_low bytes

-- the number of bytes, the highest first
abbrev pub number_from_high : List ℕ → ℕ
number_from_high bytes = fold (λ number byte. number * 256 + byte) 0 bytes

-- the lowest so many bytes of a number, the lowest first
abbrev pub low_bytes : ℕ → ℕ → List ℕ
low_bytes zero number = []
low_bytes (suc count) number = number % 256 ∷ low_bytes count (number / 256)

-- the number that a field's bytes are
abbrev pub number_in : FieldType → List ℕ → ℕ
number_in (types.Number width) bytes = number_from_low bytes
number_in (types.Bytes count) bytes = number_from_high bytes

-- the value of a field, which is below 2 ^ 64 as each value is; no field of 1 to 8 bytes is changed by that
abbrev pub value_in : FieldType → List ℕ → ℕ
value_in of bytes = number_in of bytes % 2 ^ 64

-- the bytes of a field that holds a number, which is taken modulo the field's size
abbrev pub bytes_in : FieldType → ℕ → List ℕ
bytes_in (types.Number width) number = low_bytes (field_bytes (types.Number width)) number
bytes_in (types.Bytes count) number = reverse (low_bytes count number)

-- the numbers in the fields of a struct
abbrev pub values_in : List Field → List ℕ → List ℕ
values_in [] bytes = []
values_in (field ∷ fields) bytes = value_in field.of (take (field_bytes field.of) bytes) ∷ values_in fields (drop (field_bytes field.of) bytes)

-- a struct's bytes with a number in the field at a place
abbrev pub with_field : ℕ → FieldType → ℕ → List ℕ → List ℕ
with_field place of number bytes = take place bytes ++ (bytes_in of number ++ drop (field_bytes of) (drop place bytes))
