-- Where a key's search begins. Nothing that a caller sees depends on it.
use Rattle.std.specs.Prelude.{ℕ, zero, suc, ◌-◌, ◌*◌, ◌/◌, ◌%◌, ◌^◌, List, length, fold, nat_lt, if◌then◌else◌, bit_and, bit_xor}
use Rattle.std.specs.Hash.FoldHasher.{read_u32, read_u64}
use Rattle.vg_map.specs.declared.hash.Homes.{Homes}

-- the four bytes from a place on as a number, the lowest first
abbrev pub half : List ℕ → ℕ → ℕ
half key at = read_u32 key at

-- the eight bytes from a place on as a number, the lowest first
abbrev pub word : List ℕ → ℕ → ℕ
word key at = read_u64 key at

-- the upper 32 of 64 bits are put over the lower ones too
unfoldable pub folded : ℕ → ℕ
folded state = bit_xor state (state / 2 ^ 32)

-- A word is mixed into a state of 64 bits: laid over it, and multiplied by an odd number. No two states become one.
unfoldable pub mixed : ℕ → ℕ → ℕ
mixed state word = folded (folded (bit_xor state word) * 0x9e37_79b9_7f4a_7c15 % 2 ^ 64)

-- the state after the first n words of eight bytes
unfoldable pub after_words : List ℕ → ℕ → ℕ → ℕ
after_words key state zero = state
after_words key state (suc n) = mixed (after_words key state n) (word key (8 * n))

-- the hash of a key: each word of eight bytes that is followed by more, then the last eight bytes; of a shorter key, each byte
unfoldable pub hash_of : ℕ → List ℕ → ℕ
hash_of seed key =
    let n = length key in
    if nat_lt n 8 then fold mixed seed key else mixed (after_words key seed ((n - 1) / 8)) (word key (n - 8))

-- the key's home: its hash cut to the bits of the mask
unfoldable pub home_of : Homes → List ℕ → ℕ
home_of homes key = bit_and (hash_of homes.seed key) homes.mask
