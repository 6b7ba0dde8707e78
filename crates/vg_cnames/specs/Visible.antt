-- What a name names (C11 6.2.1 p4, 6.2.3): of the declarations in whose scopes it stands, with its spelling and in its
-- name space, the innermost. The others are hidden. A `return` looks for its function so, whose spelling doesn't matter.
use Rattle.std.specs.Prelude.{◌≡◌, ℕ, List, true, Some}
use Rattle.vg_core.specs.Syntax.{Syntax, IsOrdered, IsUsedOnce}
use Rattle.vg_cscope.specs.Scopes.{kind_at, standings_of}
use Rattle.vg_cscope.specs.Names.{scoped, is_wanted, found}
use Rattle.vg_cscope.specs.declared.names.Wanted.{Wanted}
use Rattle.vg_cnames.specs.Scoping.{IsInScope}

-- a declaration that is what is looked for, with the spelling and the name space
abbrev pub IsWanted : List ℕ → Syntax → Wanted → ℕ → Type 0
IsWanted text tree what d = is_wanted text what (kind_at tree d) ≡ true

-- what is looked for at a node is this declaration: the node lies in its scope, and in that of no other that stands in
-- that scope itself
pub record IsVisible (text : List ℕ) (tree : Syntax) (what : Wanted) (n d : ℕ) : Type 0 where
  pub wanted : IsWanted text tree what d
  pub in_scope : IsInScope tree d n
  pub not_hidden : (e : ℕ) → IsWanted text tree what e → IsInScope tree e n → IsInScope tree d e → ⊥

-- a name names one declaration or none
abbrev pub NamesAreOne : Type 0
NamesAreOne = (text : List ℕ) (tree : Syntax) (what : Wanted) (n d e : ℕ) → IsOrdered tree → IsUsedOnce tree →
    IsVisible text tree what n d → IsVisible text tree what n e → d ≡ e

-- it is found
abbrev pub VisibleAreFound : Type 0
VisibleAreFound = (text : List ℕ) (tree : Syntax) (what : Wanted) (n d : ℕ) → IsOrdered tree → IsUsedOnce tree →
    IsVisible text tree what n d → found (scoped text tree (standings_of tree)) what n ≡ Some d

-- and nothing else is
abbrev pub FoundAreVisible : Type 0
FoundAreVisible = (text : List ℕ) (tree : Syntax) (what : Wanted) (n d : ℕ) → IsOrdered tree → IsUsedOnce tree →
    found (scoped text tree (standings_of tree)) what n ≡ Some d → IsVisible text tree what n d
