-- Numbers: decimal ones without leading zeros, and hexadecimal ones behind 0x, below 2^64.
use Rattle.std.specs.Prelude.{ℕ, ◌-◌, ◌+◌, ◌*◌, ◌^◌, List, [], ◌∷◌, drop, codes, length, Bool, not, ◌&&◌, nat_le, nat_lt, ◌==◌}
use Rattle.std.specs.Prelude.{if◌then◌else◌, Option, Some, None}
use Rattle.std.specs.List.{prefix_len}
use Rattle.vg_stok.specs.Bytes.{is_digit, begins}

-- the value of a digit, up to f or F for 15; a byte that is no digit has one too great for every base
abbrev pub digit_of : ℕ → ℕ
digit_of b =
    if is_digit b then b - 48
    else if nat_le 97 b && nat_le b 102 then b - 87
    else if nat_le 65 b && nat_le b 70 then b - 55
    else 16

-- whether a byte is a digit of a base
abbrev pub is_digit_in : ℕ → ℕ → Bool
is_digit_in base b = nat_lt (digit_of b) base

-- the value of digits, behind a number that the digits before them are
abbrev pub value_on : ℕ → ℕ → List ℕ → ℕ
value_on base n [] = n
value_on base n (b ∷ digits) = value_on base (n * base + digit_of b) digits

-- the base of a number: 16 behind 0x, else 10
abbrev pub base_of : List ℕ → ℕ
base_of word = if begins word (codes "0x") then 16 else 10

-- the digits of a number
abbrev pub digits_of : List ℕ → List ℕ
digits_of word = if begins word (codes "0x") then drop 2 word else word

-- whether a decimal word has a zero that leads nothing but other digits
abbrev pub leads_with_zero : List ℕ → Bool
leads_with_zero word = base_of word == 10 && begins word (codes "0") && nat_lt 1 (length word)

-- whether a word is digits, one at least, without a leading zero
abbrev pub is_number : List ℕ → Bool
is_number word =
    nat_lt 0 (length (digits_of word)) && prefix_len (is_digit_in (base_of word)) (digits_of word) == length (digits_of word)
    && not (leads_with_zero word)

-- a value that 64 bits hold
abbrev pub held : ℕ → Option ℕ
held value = if nat_lt value (2 ^ 64) then Some value else None

-- the number that a word is
abbrev pub number_of : List ℕ → Option ℕ
number_of word = if is_number word then held (value_on (base_of word) 0 (digits_of word)) else None
