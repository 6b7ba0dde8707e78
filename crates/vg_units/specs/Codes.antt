-- Places of literals in tables. No public clause rests on this file.
use Rattle.std.specs.Prelude.{ℕ, ◌+◌, ◌*◌, ℤ, pos, negsuc}

-- variable n has place 2 * n, its negation the next
abbrev pub code : ℤ → ℕ
code (pos n) = 2 * n
code (negsuc n) = 2 * (n + 1) + 1
