-- A text in pieces: line feeds stand between its lines, and single spaces between the words of a line.
use Rattle.std.specs.Prelude.{ℕ, ◌==◌, List, [], ◌∷◌, if◌then◌else◌}

-- the first piece begins with a byte more
abbrev pub with_first : ℕ → List (List ℕ) → List (List ℕ)
with_first byte [] = (byte ∷ []) ∷ []
with_first byte (piece ∷ pieces) = (byte ∷ piece) ∷ pieces

-- the pieces between marks, one more than there are marks; a piece may be empty
abbrev pub pieces : ℕ → List ℕ → List (List ℕ)
pieces mark [] = [] ∷ []
pieces mark (byte ∷ bytes) = if byte == mark then [] ∷ pieces mark bytes else with_first byte (pieces mark bytes)

-- the lines of a text
abbrev pub lines_of : List ℕ → List (List ℕ)
lines_of text = pieces 10 text

-- the words of a line
abbrev pub words_of : List ℕ → List (List ℕ)
words_of line = pieces 32 line
