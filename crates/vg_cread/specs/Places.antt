-- Where a reader stands in a list of tokens.
use Rattle.std.specs.Prelude.{ℕ, ◌-◌, List, length, slice_get, Bool, false, Option, Some, None}
use Rattle.vg_core.specs.Syntax.{Syntax}
use Rattle.vg_ctok.specs.declared.kinds.Token.{Token}

-- how many tokens are read, and what stands of the tree
pub record State : Type 0 where
  pub at : ℕ
  pub tree : Syntax

-- the end of a token, or 0 where there is none
abbrev pub end_or_0 : Option Token → ℕ
end_or_0 None = 0
end_or_0 (Some t) = t.to

-- the end of the last token, or 0 where there is none
abbrev pub end_of : List Token → ℕ
end_of toks = end_or_0 (slice_get toks (length toks - 1))

abbrev pub place_or : Option Token → ℕ → ℕ
place_or None end = end
place_or (Some t) end = t.from

-- the place of the token behind so many, or the end of the last where there is none
abbrev pub place_at : List Token → ℕ → ℕ
place_at toks at = place_or (slice_get toks at) (end_of toks)

-- whether a next token passes a test
abbrev pub passes : (Token → Bool) → Option Token → Bool
passes test None = false
passes test (Some t) = test t

-- what a test gives of a next token
abbrev pub tested : {A : Type 0} → (Token → Option A) → Option Token → Option A
tested test None = None
tested test (Some t) = test t
