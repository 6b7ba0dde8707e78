-- Machine words: bit vectors of a fixed width. A word of width w is a number below 2 ^ w, and each operation is a formula on whole numbers, modulo 2 ^ w.
-- The operations and their answers at the edges (a divisor of 0, a shift past the width) are those of the SMT-LIB theory FixedSizeBitVectors.
-- Bitwise `and`, `or` and `xor` are std's `bit_and`, `bit_or` and `bit_xor` on the numbers, and an extension by zeros leaves the number as it is.
use Rattle.std.specs.Prelude.{ℕ, ◌+◌, ◌-◌, ◌*◌, ◌/◌, ◌%◌, ◌^◌, Bool, nat_eq, nat_lt, if◌then◌else◌, ℤ, pos, ◌-ℤ◌, int_lt, unsigned_abs}
use Rattle.std.specs.Int.{int_div_euclid, int_rem_euclid}

-- ---- words and integers

-- the word of width w that an integer is modulo 2 ^ w
abbrev pub reduced : ℕ → ℤ → ℕ
reduced w z = unsigned_abs (int_rem_euclid z (pos (2 ^ w)))

-- the integer that a word of width w stands for in two's complement
abbrev pub signed : ℕ → ℕ → ℤ
signed w a = if nat_lt a (2 ^ (w - 1)) then pos a else pos a -ℤ pos (2 ^ w)

-- a truth value as a word of one bit
abbrev pub bit : Bool → ℕ
bit holds = if holds then 1 else 0

-- the word of width w with a 1 in every bit
abbrev pub all_ones : ℕ → ℕ
all_ones w = 2 ^ w - 1

-- ---- arithmetic

abbrev pub add : ℕ → ℕ → ℕ → ℕ
add w a b = (a + b) % 2 ^ w

abbrev pub sub : ℕ → ℕ → ℕ → ℕ
sub w a b = reduced w (pos a -ℤ pos b)

abbrev pub mul : ℕ → ℕ → ℕ → ℕ
mul w a b = (a * b) % 2 ^ w

-- the unsigned quotient; a divisor of 0 gives all ones
abbrev pub udiv : ℕ → ℕ → ℕ → ℕ
udiv w a b = if nat_eq b 0 then all_ones w else a / b

-- the unsigned remainder; a divisor of 0 gives the dividend
abbrev pub urem : ℕ → ℕ → ℕ
urem a b = if nat_eq b 0 then a else a % b

-- ---- bits

-- each bit turned
abbrev pub not : ℕ → ℕ → ℕ
not w a = all_ones w - a

-- to the left by b; 0 from b = w on
abbrev pub shl : ℕ → ℕ → ℕ → ℕ
shl w a b = (a * 2 ^ b) % 2 ^ w

-- to the right by b, with zeros from the left; 0 from b = w on
abbrev pub lshr : ℕ → ℕ → ℕ
lshr a b = a / 2 ^ b

-- to the right by b, with the sign from the left: the signed reading over 2 ^ b, rounded down; from b = w on the sign in every bit
abbrev pub ashr : ℕ → ℕ → ℕ → ℕ
ashr w a b = reduced w (int_div_euclid (signed w a) (pos (2 ^ b)))

-- ---- comparisons, each a word of one bit

abbrev pub eq : ℕ → ℕ → ℕ
eq a b = bit (nat_eq a b)

abbrev pub ult : ℕ → ℕ → ℕ
ult a b = bit (nat_lt a b)

abbrev pub slt : ℕ → ℕ → ℕ → ℕ
slt w a b = bit (int_lt (signed w a) (signed w b))

-- ---- other widths

-- a high part over a low one that is w wide
abbrev pub concat : ℕ → ℕ → ℕ → ℕ
concat w high low = high * 2 ^ w + low

-- the w bits from bit `from` on
abbrev pub extract : ℕ → ℕ → ℕ → ℕ
extract from w a = a / 2 ^ from % 2 ^ w

-- a word of width v as one of width w with the same signed reading
abbrev pub sext : ℕ → ℕ → ℕ → ℕ
sext v w a = reduced w (signed v a)
