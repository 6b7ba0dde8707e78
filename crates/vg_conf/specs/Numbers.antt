-- Numbers in words: decimal without leading zeros, hexadecimal behind `0x`, or an IPv4 address as four decimal numbers with dots between.
use Rattle.std.specs.Prelude.{ℕ, ◌+◌, ◌-◌, ◌*◌, ◌^◌, ◌==◌, nat_le, nat_lt, ◌&&◌, Bool, List, [], ◌∷◌, fold, length, Option, Some, None, if◌then◌else◌}
use Rattle.vg_conf.specs.Pieces.{pieces}

-- a byte lies from one to another
abbrev pub is_from_to : ℕ → ℕ → ℕ → Bool
is_from_to low high byte = nat_le low byte && nat_le byte high

-- the value of a digit, and 16 where a byte is none
abbrev pub digit_of : ℕ → ℕ
digit_of byte = if is_from_to 48 57 byte then byte - 48 else if is_from_to 97 102 byte then byte - 87 else if is_from_to 65 70 byte then byte - 55 else 16

-- a number with a digit more, where that is one of the base and the number stays below 2 ^ 64
abbrev pub with_digit : ℕ → Option ℕ → ℕ → Option ℕ
with_digit base None byte = None
with_digit base (Some number) byte = if nat_lt (digit_of byte) base && nat_lt (number * base + digit_of byte) (2 ^ 64) then Some
    (number * base + digit_of byte) else None

-- the number of a row of digits
abbrev pub number_of : ℕ → List ℕ → Option ℕ
number_of base digits = fold (with_digit base) (Some 0) digits

-- a decimal number
abbrev pub decimal_in : List ℕ → Option ℕ
decimal_in [] = None
decimal_in (byte ∷ []) = number_of 10 (byte ∷ [])
decimal_in (first ∷ second ∷ more) = if first == 48 then None else number_of 10 (first ∷ second ∷ more)

-- a hexadecimal number
abbrev pub hexadecimal_in : List ℕ → Option ℕ
hexadecimal_in (first ∷ second ∷ digit ∷ digits) = if (first == 48) && (second == 120) then number_of 16 (digit ∷ digits) else None
hexadecimal_in _ = None

-- an address with a byte more, which stays below 2 ^ 32
abbrev pub with_byte : ℕ → Option ℕ → Option ℕ
with_byte address None = None
with_byte address (Some byte) = if nat_lt byte 256 && nat_lt (address * 256 + byte) (2 ^ 32) then Some (address * 256 + byte) else None

-- an address with a part more
abbrev pub with_part : Option ℕ → List ℕ → Option ℕ
with_part None part = None
with_part (Some address) part = with_byte address (decimal_in part)

-- an IPv4 address, by its four parts
abbrev pub address_by : List (List ℕ) → Option ℕ
address_by parts = if length parts == 4 then fold with_part (Some 0) parts else None

-- an IPv4 address
abbrev pub address_in : List ℕ → Option ℕ
address_in word = address_by (pieces 46 word)

-- the first of two, or else the second
abbrev pub or_else : Option ℕ → Option ℕ → Option ℕ
or_else (Some one) other = Some one
or_else None other = other

-- a number in any of the three forms
abbrev pub number_in : List ℕ → Option ℕ
number_in word = or_else (decimal_in word) (or_else (hexadecimal_in word) (address_in word))
