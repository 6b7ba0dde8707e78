-- What contracts see of declared names.
use Rattle.std.specs.Prelude.{ℕ, ◌==◌, if◌then◌else◌, List, [], ◌∷◌, ◌++◌, map, string_bytes}
use Rattle.vg_stree.specs.declared.names.Named.{Named}

-- the place of a name in the text, and its bytes
pub record Name : Type 0 where
  pub at : ℕ
  pub spelled : List ℕ

-- what is seen of names
abbrev pub seen : List Named → List Name
seen names = map (λ named. record { at = named.at; spelled = string_bytes named.spelled }) names

-- one name more
abbrev pub with_name : List Name → ℕ → List ℕ → List Name
with_name names at spelled = names ++ record { at = at; spelled = spelled } ∷ []

-- how the name that is declared at a place is spelled; no bytes where none is declared there
abbrev pub spelled_at : List Name → ℕ → List ℕ
spelled_at [] at = []
spelled_at (name ∷ names) at = if name.at == at then name.spelled else spelled_at names at
