-- The words of a frame: so many bytes from a place on, the highest byte first. Bytes past the frame's end read as 0, and aren't written.
use Rattle.std.specs.Prelude.{ℕ, zero, suc, ◌+◌, ◌-◌, List, [], ◌∷◌, ◌++◌, length, take, drop, reverse, slice_get, unwrap_or}
use Rattle.vg_stree.specs.declared.code.FrameWord.{FrameWord}
use Rattle.vg_stree.specs.declared.code.FrameWord.TheVariants as words
use Rattle.vg_abs.specs.Fields.{number_from_high, low_bytes}

-- how many bytes a word has
abbrev pub word_bytes : FrameWord → ℕ
word_bytes words.U8 = 1
word_bytes words.Be16 = 2
word_bytes words.Be32 = 4
word_bytes words.Be48 = 6
word_bytes words.Be64 = 8

-- so many bytes of a frame from a place on
abbrev pub bytes_from : List ℕ → (place count : ℕ) → List ℕ
bytes_from frame place zero = []
bytes_from frame place (suc count) = unwrap_or (slice_get frame place) 0 ∷ bytes_from frame (place + 1) count

-- the word at a place
abbrev pub word_at : List ℕ → FrameWord → ℕ → ℕ
word_at frame word place = number_from_high (bytes_from frame place (word_bytes word))

-- the frame with these bytes from a place on; it keeps its length
abbrev pub with_bytes_from : List ℕ → ℕ → List ℕ → List ℕ
with_bytes_from frame place bytes = take place frame ++ take (length frame - place) bytes ++ drop (place + length bytes) frame

-- the frame with a number in the word at a place, taken modulo the word's size
abbrev pub with_word : List ℕ → FrameWord → ℕ → ℕ → List ℕ
with_word frame word place number = with_bytes_from frame place (reverse (low_bytes (word_bytes word) number))
