-- Lines and columns, both counted from 1, a column in bytes.
use Rattle.std.specs.Prelude.{ℕ, ◌+◌, List, [], ◌∷◌, take, ◌==◌, if◌then◌else◌}
use Rattle.vg_cfront.specs.declared.places.LineColumn.{LineColumn}

-- where a text starts
abbrev pub start : LineColumn
start = record { line = 1; column = 1 }

-- behind a byte: a line feed ends its line
abbrev pub after : LineColumn → ℕ → LineColumn
after here b = if b == 10 then record { line = here.line + 1; column = 1 } else record { line = here.line; column = here.column + 1 }

abbrev pub behind : LineColumn → List ℕ → LineColumn
behind here [] = here
behind here (b ∷ bytes) = behind (after here b) bytes

-- the place in a text behind so many bytes
abbrev pub place : List ℕ → ℕ → LineColumn
place text at = behind start (take at text)
