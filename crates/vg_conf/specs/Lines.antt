-- The lines of a configuration's text: `NAME NUMBER` gives a declared number, `route TABLE A.B.C.D/LEN NUMBER` adds a route, and
-- `cell VECTOR INDEX FIELD NUMBER` fills a field of a cell. Empty lines and those that begin with `#` are skipped.
use Rattle.std.specs.Prelude.{ℕ, ◌+◌, ◌^◌, ◌==◌, nat_le, nat_lt, ◌&&◌, Bool, true, List, [], ◌∷◌, ◌++◌, length, codes, slice_get, slice_set, Option}
use Rattle.std.specs.Prelude.{Some, None, Result, Ok, Err, if◌then◌else◌}
use Rattle.std.specs.Str.{bytes_eq}
use Rattle.vg_stree.specs.declared.shape.Number.{Number}
use Rattle.vg_stree.specs.declared.shape.Field.{Field}
use Rattle.vg_stree.specs.declared.shape.Object.{Object}
use Rattle.vg_stree.specs.declared.shape.ObjectKind.{ObjectKind}
use Rattle.vg_stree.specs.declared.shape.ObjectKind.TheVariants as kinds
use Rattle.vg_stree.specs.Declarations.{field_bytes, fields_of}
use Rattle.vg_stree.specs.Specification.{Specification}
use Rattle.vg_conf.specs.declared.fault.ConfFault.{ConfFault}
use Rattle.vg_conf.specs.declared.fault.ConfFault.TheVariants as faults
use Rattle.vg_conf.specs.declared.lines.Prefix.{Prefix}
use Rattle.vg_conf.specs.Pieces.{pieces, lines_of, words_of}
use Rattle.vg_conf.specs.Numbers.{decimal_in, address_in, number_in}
use Rattle.vg_conf.specs.Named.{number_named, table_named, vector_named, field_named}
use Rattle.vg_conf.specs.Given.{Gathered, nothing_given}

-- what is given after a line, or why the line is refused
abbrev pub Answer : Type 0
Answer = Result Gathered ConfFault

-- a number lies in a range
abbrev pub is_within : ℕ → ℕ → ℕ → Bool
is_within low high value = nat_le low value && nat_le value high

-- a declared number is given, by what was given of it before: once, and then in its range
abbrev pub give_once : Gathered → ℕ → Number → ℕ → Option (Option ℕ) → Answer
give_once given place number value (Some (Some earlier)) = Err (faults.Twice number.at)
give_once given place number value _ =
    if is_within number.low number.high value then Ok (record given { numbers = slice_set given.numbers place (Some value) }) else Err (faults.Range number.at)

abbrev pub give : ℕ → Gathered → ℕ → Option Number → ℕ → Answer
give line given place None value = Err (faults.Line line)
give line given place (Some number) value = give_once given place number value (slice_get given.numbers place)

-- `NAME NUMBER`, by the place of the declared number and the value
abbrev pub number_line : Specification → ℕ → Gathered → Option ℕ → Option ℕ → Answer
number_line spec line given (Some place) (Some value) = give line given place (slice_get spec.shape.numbers place) value
number_line spec line given _ _ = Err (faults.Line line)

-- an address and a length of at most 32 bits
abbrev pub prefix_of : Option ℕ → Option ℕ → Option Prefix
prefix_of (Some address) (Some len) = if nat_le len 32 then Some (record { address = address; len = len }) else None
prefix_of _ _ = None

abbrev pub prefix_by : List (List ℕ) → Option Prefix
prefix_by (address ∷ len ∷ []) = prefix_of (address_in address) (decimal_in len)
prefix_by _ = None

-- `A.B.C.D/LEN`
abbrev pub prefix_in : List ℕ → Option Prefix
prefix_in word = prefix_by (pieces 47 word)

-- how many routes a configuration may have
abbrev pub most_routes : ℕ
most_routes = 65536

-- a route is added to a table with a range, where there is room: its value lies in the range
abbrev pub add_within : ℕ → Gathered → ℕ → ℕ → ℕ → ℕ → Prefix → ℕ → Answer
add_within line given table at low high prefix value =
    if nat_le most_routes (length given.routes) then Err (faults.Line line)
    else if is_within low high value then Ok
    (record given { routes = given.routes ++ record { table = table; address = prefix.address; len = prefix.len; value = value } ∷ [] })
    else Err (faults.Range at)

-- a route is added to a table, by the table's kind
abbrev pub add_in : ℕ → Gathered → ℕ → ℕ → ObjectKind → Prefix → ℕ → Answer
add_in line given table at (kinds.Table low high) prefix value = add_within line given table at low high prefix value
add_in line given table at _ prefix value = Err (faults.Line line)

abbrev pub add : ℕ → Gathered → ℕ → Option Object → Prefix → ℕ → Answer
add line given table None prefix value = Err (faults.Line line)
add line given table (Some object) prefix value = add_in line given table object.at object.kind prefix value

-- `route TABLE A.B.C.D/LEN NUMBER`, by the table's number among the objects, the prefix and the value
abbrev pub route_line : Specification → ℕ → Gathered → Option ℕ → Option Prefix → Option ℕ → Answer
route_line spec line given (Some table) (Some prefix) (Some value) = add line given table (slice_get spec.shape.objects table) prefix value
route_line spec line given _ _ _ = Err (faults.Line line)

-- the struct of a vector's cells, where an object is a vector of its own
abbrev pub struct_of : ObjectKind → Option ℕ
struct_of (kinds.Vector cell count) = Some cell
struct_of _ = None

abbrev pub struct_in : Option Object → Option ℕ
struct_in None = None
struct_in (Some object) = struct_of object.kind

-- a field is filled, which holds the value; its index is judged when all numbers are known
abbrev pub put_in : ℕ → Gathered → ℕ → ℕ → ℕ → Option Field → ℕ → Answer
put_in line given vector index place None value = Err (faults.Line line)
put_in line given vector index place (Some field) value =
    if nat_lt value (256 ^ field_bytes field.of) then Ok (record given {
      cells = given.cells
          ++ record { line = line; vector = vector; index = index; field = place; value = value } ∷ [];
    })
    else Err (faults.Line line)

abbrev pub put_at : Specification → ℕ → Gathered → ℕ → ℕ → ℕ → Option ℕ → ℕ → Answer
put_at spec line given vector index cell None value = Err (faults.Line line)
put_at spec line given vector index cell (Some place) value = put_in line given vector index place (slice_get (fields_of spec.shape cell) place) value

abbrev pub put : Specification → ℕ → Gathered → ℕ → ℕ → Option ℕ → List ℕ → ℕ → Answer
put spec line given vector index None word value = Err (faults.Line line)
put spec line given vector index (Some cell) word value = put_at spec line given vector index cell (field_named spec cell word) value

-- `cell VECTOR INDEX FIELD NUMBER`, by the vector's number among the objects, the index, the word for the field, and the value
abbrev pub cell_line : Specification → ℕ → Gathered → Option ℕ → Option ℕ → List ℕ → Option ℕ → Answer
cell_line spec line given (Some vector) (Some index) word (Some value) = put spec line given vector index
    (struct_in (slice_get spec.shape.objects vector)) word value
cell_line spec line given _ _ word _ = Err (faults.Line line)

-- a line of four words, and one of five
abbrev pub after_four : Specification → ℕ → Gathered → List ℕ → List ℕ → List ℕ → List ℕ → Answer
after_four spec line given first table prefix number =
    if bytes_eq first (codes "route") then route_line spec line given (table_named spec table) (prefix_in prefix) (number_in number) else Err (faults.Line line)

abbrev pub after_five : Specification → ℕ → Gathered → List ℕ → List ℕ → List ℕ → List ℕ → List ℕ → Answer
after_five spec line given first vector index field number =
    if bytes_eq first (codes "cell") then cell_line spec line given (vector_named spec vector) (number_in index) field (number_in number) else Err
    (faults.Line line)

-- a line, by its words: their number tells its form
abbrev pub after_words : Specification → ℕ → Gathered → List (List ℕ) → Answer
after_words spec line given (name ∷ number ∷ []) = number_line spec line given (number_named spec name) (number_in number)
after_words spec line given (first ∷ table ∷ prefix ∷ number ∷ []) = after_four spec line given first table prefix number
after_words spec line given (first ∷ vector ∷ index ∷ field ∷ number ∷ []) = after_five spec line given first vector index field number
after_words spec line given _ = Err (faults.Line line)

-- a line is empty or a comment
abbrev pub is_skipped : List ℕ → Bool
is_skipped [] = true
is_skipped (byte ∷ bytes) = byte == 35

-- what is given after a line; lines are counted from 1
abbrev pub after_line : Specification → ℕ → Gathered → List ℕ → Answer
after_line spec line given bytes = if is_skipped bytes then Ok given else after_words spec line given (words_of bytes)

abbrev pub and_then : Answer → (Gathered → Answer) → Answer
and_then (Ok given) next = next given
and_then (Err fault) next = Err fault

-- what is given after lines, the first of which has this number
abbrev pub after_lines : Specification → ℕ → Gathered → List (List ℕ) → Answer
after_lines spec line given [] = Ok given
after_lines spec line given (bytes ∷ more) = and_then (after_line spec line given bytes) (λ next. after_lines spec (line + 1) next more)

-- what the lines of a text give, or why the first bad one is refused
abbrev pub gathered : Specification → List ℕ → Answer
gathered spec text = after_lines spec 1 (nothing_given spec) (lines_of text)
