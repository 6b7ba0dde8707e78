-- Lists of lists that are kept as one list and the places at which its pieces end.
use Rattle.std.specs.Prelude.{◌≡◌, ℕ, zero, suc, ◌≤◌, List, [], ◌∷◌, slice_range, slice_index}

-- the pieces of a list, the first from `start` on, each from where the one before it ends
abbrev pub pieces : {A : Type 0} → List A → ℕ → List ℕ → List (List A)
pieces items start [] = []
pieces items start (end ∷ ends) = slice_range items start end ∷ pieces items end ends

-- the places do not fall, and the last is the end of the list
abbrev pub Cuts : ℕ → ℕ → List ℕ → Type 0
Cuts total start [] = start ≡ total
Cuts total start (end ∷ ends) = (start ≤ end) × Cuts total end ends

-- where the piece at a place starts: where the one before it ends
abbrev pub start_of : ℕ → List ℕ → ℕ → ℕ
start_of start ends zero = start
start_of start ends (suc at) = slice_index ends at
