-- Where a reader stands in a list of tokens.
use Rattle.std.specs.Prelude.{ℕ, ◌-◌, List, length, slice_get, Bool, false, Option, Some, None}
use Rattle.vg_forms.specs.declared.token.Token.{Token}

-- how many tokens are read, and what stands of the tree
pub record State (G : Type 0) : Type 0 where
  pub at : ℕ
  pub tree : G

-- the end of a token, or 0 where there is none
abbrev pub end_or_0 : {K : Type 0} → Option (Token K) → ℕ
end_or_0 None = 0
end_or_0 (Some t) = t.to

-- the end of the last token, or 0 where there is none
abbrev pub end_of : {K : Type 0} → List (Token K) → ℕ
end_of toks = end_or_0 (slice_get toks (length toks - 1))

abbrev pub place_or : {K : Type 0} → Option (Token K) → ℕ → ℕ
place_or None end = end
place_or (Some t) end = t.from

-- the place of the token behind so many, or the end of the last where there is none
abbrev pub place_at : {K : Type 0} → List (Token K) → ℕ → ℕ
place_at toks at = place_or (slice_get toks at) (end_of toks)

-- whether a next token passes a test
abbrev pub passes : {K : Type 0} → (Token K → Bool) → Option (Token K) → Bool
passes test None = false
passes test (Some t) = test t

-- what a test gives of a next token
abbrev pub tested : {K A : Type 0} → (Token K → Option A) → Option (Token K) → Option A
tested test None = None
tested test (Some t) = test t
