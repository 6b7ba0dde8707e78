-- Lists of indices: which are in them, and that none is there twice.
use Rattle.std.specs.Prelude.{ℕ, ◌<◌, ◌≢◌, ◌==◌, not, List, [], ◌∷◌, filter, ⊤}

-- a list of indices that are all below a bound
pub record Indices : Type 0 where
  pub bound : ℕ
  pub order : List ℕ

-- i isn't in the list
abbrev pub IsAbsent : ℕ → List ℕ → Type 0
IsAbsent i [] = ⊤
IsAbsent i (x ∷ xs) = (i ≢ x) × IsAbsent i xs

-- no index is there twice
abbrev pub IsDistinct : List ℕ → Type 0
IsDistinct [] = ⊤
IsDistinct (x ∷ xs) = IsAbsent x xs × IsDistinct xs

-- each index is below the bound
abbrev pub AllBelow : ℕ → List ℕ → Type 0
AllBelow bound [] = ⊤
AllBelow bound (x ∷ xs) = (x < bound) × AllBelow bound xs

-- the list without i
abbrev pub without : List ℕ → ℕ → List ℕ
without xs i = filter (λ x. not (x == i)) xs
