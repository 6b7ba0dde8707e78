-- Comments, as in C (C11 6.4.9).
use Rattle.std.specs.Prelude.{ℕ, ◌+◌, List, [], ◌∷◌, drop, codes, Bool, ◌||◌, if◌then◌else◌, Option, Some, None}
use Rattle.std.specs.List.{prefix_len}
use Rattle.vg_stok.specs.Bytes.{is_in_line, begins}

-- the place behind the first `*/` of a text that begins at a place
abbrev pub close_from : ℕ → List ℕ → Option ℕ
close_from at [] = None
close_from at (b ∷ bytes) = if begins (b ∷ bytes) (codes "*/") then Some (at + 2) else close_from (at + 1) bytes

-- whether a text begins with the opening of a comment
abbrev pub opens_comment : List ℕ → Bool
opens_comment text = begins text (codes "//") || begins text (codes "/*")

-- the size of the comment that a text begins with: to the line's end, or to the first `*/` behind the opening, if there is one
abbrev pub comment_size : List ℕ → Option ℕ
comment_size text =
    if begins text (codes "//") then Some (prefix_len is_in_line text)
    else if begins text (codes "/*") then close_from 2 (drop 2 text)
    else None
