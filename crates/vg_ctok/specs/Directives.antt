-- Directives (C11 6.10): a line that is `#include` and anything, or `#define`, a name and a number. Their words stand apart by
-- blanks, and comments on the line count as blanks (5.1.1.2, phase 3).
use Rattle.std.specs.Prelude.{ℕ, ◌+◌, ◌-◌, List, take, drop, codes, length, Bool, ◌&&◌, ◌==◌, if◌then◌else◌, Option, None, option_map}
use Rattle.std.specs.Str.{bytes_eq}
use Rattle.std.specs.List.{prefix_len, take_while}
use Rattle.vg_ctok.specs.Bytes.{is_name_byte, is_space, is_dark, is_name}
use Rattle.vg_ctok.specs.Numbers.{number_of}
use Rattle.vg_ctok.specs.declared.pieces.Span.{Span}
use Rattle.vg_ctok.specs.declared.pieces.Define.{Define}

-- the bytes between two places
abbrev pub slice : List ℕ → Span → List ℕ
slice line span = take (span.to - span.from) (drop span.from line)

-- the first place from a place on that is no blank
abbrev pub dark_from : List ℕ → ℕ → ℕ
dark_from line at = at + prefix_len is_space (drop at line)

-- the first word from a place on; none is left where its bytes are none
abbrev pub word_from : List ℕ → ℕ → Span
word_from line at = record { from = dark_from line at; to = dark_from line at + prefix_len is_dark (drop (dark_from line at) line) }

-- whether a line is an #include; its # is the byte at place 0
abbrev pub is_include : List ℕ → Bool
is_include line = bytes_eq (take_while is_name_byte (drop (dark_from line 1) line)) (codes "include")

-- whether a line's words are `define`, a name, and a third that ends at a place, behind which no fourth stands
abbrev pub defines_name : List ℕ → List ℕ → List ℕ → ℕ → Bool
defines_name line word name end = bytes_eq word (codes "define") && is_name name && (dark_from line end == length line)

-- the name and the number that a line defines, where its words are `define`, a name and a number
unfoldable pub define_of : List ℕ → Option Define
define_of line =
    let word = word_from line 1 in
    let name = word_from line word.to in
    let number = word_from line name.to in
    if defines_name line (slice line word) (slice line name) number.to
    then option_map (λ n. record { name = name; number = n }) (number_of (slice line number))
    else None
