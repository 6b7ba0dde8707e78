-- How private functions read a number byte by byte. No public clause cites this: `Fields` says what a field's value is.
use Rattle.std.specs.Prelude.{ℕ, ◌+◌, ◌*◌, ◌%◌, ◌^◌, List, fold}

-- a number and one byte more behind it
abbrev pub with_byte : ℕ → ℕ → ℕ
with_byte number byte = (number * 256 % 2 ^ 64 + byte) % 2 ^ 64

-- the number of bytes, the highest first
abbrev pub from_high : List ℕ → ℕ
from_high bytes = fold with_byte 0 bytes
