-- Literals that are true, as lists in no order.
use Rattle.std.specs.Prelude.{◌≡◌, ℤ, List}
use Rattle.vg_cnf.specs.Clauses.{holds}

-- two lists hold the same literals
abbrev pub SameLiterals : List ℤ → List ℤ → Type 0
SameLiterals made others = (k : ℤ) → holds made k ≡ holds others k
