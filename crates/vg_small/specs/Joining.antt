-- How the code finds where a word ends, byte after byte. It mirrors the code, and no public contract cites it.
use Rattle.std.specs.Prelude.{ℕ, ◌+◌, List, [], ◌∷◌, Bool, false, ◌&&◌, ◌||◌, if◌then◌else◌}
use Rattle.vg_small.specs.Words.{is_name_byte, is_equals_sign}

-- whether two bytes side by side stand in one word: two of a name or number, or two equals signs
abbrev pub joins : ℕ → ℕ → Bool
joins b next = is_name_byte next && is_name_byte b || is_equals_sign next && is_equals_sign b

-- whether a word goes on after a byte of it, by the bytes that follow
abbrev pub joins_next : ℕ → List ℕ → Bool
joins_next b [] = false
joins_next b (next ∷ bytes) = joins b next

-- how long the first word is, of a text that begins with one
unfoldable pub word_len : List ℕ → ℕ
word_len [] = 0
word_len (b ∷ bytes) = if joins_next b bytes then word_len bytes + 1 else 1
