-- The numbers of C: their forms, values and types (C11 6.4.4.1 and 6.4.8), with an int of 32 bits.
use Rattle.std.specs.Prelude.{ℕ, ◌+◌, ◌-◌, ◌*◌, ◌^◌, List, [], ◌∷◌, take, drop, codes, length, slice_get, Bool, false, ◌&&◌, ◌||◌, nat_le, nat_lt}
use Rattle.std.specs.Prelude.{◌==◌, if◌then◌else◌, Option, Some, None}
use Rattle.std.specs.List.{prefix_len}
use Rattle.vg_ctok.specs.Bytes.{is_digit, begins}
use Rattle.vg_ctok.specs.Tables.{row_of, suffixes}
use Rattle.vg_ctok.specs.declared.kinds.Number.{Number}
use Rattle.vg_ctok.specs.declared.kinds.NumberType.{NumberType}
use Rattle.vg_ctok.specs.declared.kinds.NumberType.TheVariants.{Int, Uint32, Int64, Uint64}
use Rattle.vg_ctok.specs.declared.tables.Suffix.{Suffix}
use Rattle.vg_ctok.specs.declared.tables.Suffix.TheVariants.{Plain, Unsigned, Long, UnsignedLong}

-- the value of a digit, up to f or F for 15; a byte that is no digit has one too great for every base
abbrev pub digit_of : ℕ → ℕ
digit_of b =
    if is_digit b then b - 48
    else if nat_le 97 b && nat_le b 102 then b - 87
    else if nat_le 65 b && nat_le b 70 then b - 55
    else 16

-- whether a byte is a digit of a base
abbrev pub is_digit_in : ℕ → ℕ → Bool
is_digit_in base b = nat_lt (digit_of b) base

-- the value of digits, behind a number that the digits before them are
abbrev pub value_on : ℕ → ℕ → List ℕ → ℕ
value_on base n [] = n
value_on base n (b ∷ digits) = value_on base (n * base + digit_of b) digits

-- the base of a number: 16 behind 0x or 0X, 8 behind another 0, and else 10
abbrev pub base_of : List ℕ → ℕ
base_of word =
    if begins word (codes "0x") || begins word (codes "0X") then 16
    else if begins word (codes "0") then 8
    else 10

-- what stands behind the sign of base 16; in the other bases that is the whole word
abbrev pub behind_base : List ℕ → List ℕ
behind_base word = if base_of word == 16 then drop 2 word else word

-- the types that a number may have, by its base and its suffix, the first that holds its value before the others
abbrev pub types_of : ℕ → Suffix → List NumberType
types_of base Plain = if base == 10 then Int ∷ Int64 ∷ [] else Int ∷ Uint32 ∷ Int64 ∷ Uint64 ∷ []
types_of base Unsigned = Uint32 ∷ Uint64 ∷ []
types_of base Long = if base == 10 then Int64 ∷ [] else Int64 ∷ Uint64 ∷ []
types_of base UnsignedLong = Uint64 ∷ []

-- the first number that a type doesn't hold
abbrev pub limit_of : NumberType → ℕ
limit_of Int = 2 ^ 31
limit_of Uint32 = 2 ^ 32
limit_of Int64 = 2 ^ 63
limit_of Uint64 = 2 ^ 64

-- a value with the first of these types that holds it
abbrev pub first_typed : List NumberType → ℕ → Option Number
first_typed [] value = None
first_typed (of ∷ others) value = if nat_lt value (limit_of of) then Some (record { value = value; of = of }) else first_typed others value

-- the number that digits of a base and a suffix spell
abbrev pub typed : ℕ → List ℕ → Option Suffix → Option Number
typed base digits None = None
typed base digits (Some suffix) = if length digits == 0 then None else first_typed (types_of base suffix) (value_on base 0 digits)

-- the number that a word is: the sign of its base, digits of this base, and a suffix
abbrev pub number_of : List ℕ → Option Number
number_of word =
    let base = base_of word in
    let rest = behind_base word in
    let count = prefix_len (is_digit_in base) rest in
    typed base (take count rest) (row_of suffixes (drop count rest))

-- whether a word ends in an exponent's letter and a sign is next: C reads both as one preprocessing number (C11 6.4.8). Of numbers only
-- a hexadecimal one can end so
abbrev pub is_exponent : ℕ → Bool
is_exponent b = b == 101 || b == 69 || b == 112 || b == 80

abbrev pub is_plus_or_minus : ℕ → Bool
is_plus_or_minus b = b == 43 || b == 45

abbrev pub takes_sign : Option ℕ → Option ℕ → Bool
takes_sign (Some last) (Some next) = is_exponent last && is_plus_or_minus next
takes_sign _ _ = false

-- the number that a word is before the next byte of its text; where C takes that byte into the number, it is none
abbrev pub number_before : List ℕ → Option ℕ → Option Number
number_before word next = if takes_sign (slice_get word (length word - 1)) next then None else number_of word
