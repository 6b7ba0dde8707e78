-- Operations on each bit. No public clause rests on this file.
use Rattle.std.specs.Prelude.{ℕ, Bool, ◌&&◌, ◌||◌, bit_and, bit_or, bit_xor}
use Rattle.vg_blast.specs.Circuits.{differ}
use Rattle.vg_blast.specs.declared.bitwise.Bitwise.{Bitwise}
use Rattle.vg_blast.specs.declared.bitwise.Bitwise.TheVariants.{And, Or, Xor}

-- on two bits
abbrev pub bit_by : Bitwise → Bool → Bool → Bool
bit_by And a b = a && b
bit_by Or a b = a || b
bit_by Xor a b = differ a b

-- on two numbers
abbrev pub number_by : Bitwise → ℕ → ℕ → ℕ
number_by And a b = bit_and a b
number_by Or a b = bit_or a b
number_by Xor a b = bit_xor a b
