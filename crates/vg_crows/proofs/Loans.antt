-- Cells that are lent under a name.
use Rattle.std.proofs.Common.{◌≡◌, ℕ, zero, suc, nat_eq, Bool, true, false, List, [], ◌∷◌, map, All, refl, subst, arith, ◌⊎◌, inl, inr}
use Rattle.std.specs.Prelude.{◌==◌, ◌||◌, ◌&&◌}
use Rattle.std.specs.List.{list_any}
use Rattle.std.proofs.lemmas.Grind.{common_steps}
use Rattle.vg_crows.specs.declared.book.Cell.{Cell}
use Rattle.vg_crows.specs.Record.{is_name_of, place_of}

either : (a b : Bool) → (a || b) ≡ true → (a ≡ true) ⊎ (b ≡ true)
either true b h = inl refl
either false b h = inr h

or_left : (a b : Bool) → a ≡ true → (a || b) ≡ true
or_left true b h = refl
or_left false b h = cc

or_right : (a b : Bool) → b ≡ true → (a || b) ≡ true
or_right true b h = refl
or_right false b h = h

two_of_three : (a b d : Bool) → (a && (b && d)) ≡ true → (a && b) ≡ true
two_of_three true true d h = refl
two_of_three true false d h = cc
two_of_three false b d h = cc

first_of : (a b : Bool) → (a && b) ≡ true → a ≡ true
first_of true b h = refl
first_of false b h = cc

is_number : (one other : ℕ) → nat_eq one other ≡ true → one ≡ other
is_number one other h = grind (arith, common_steps)

abbrev is_at : (vector index : ℕ) → (ℕ × ℕ) → Bool
is_at vector index cell = (cell.0 == vector) && (cell.1 == index)

lent_by : (cell : Cell) (vector index number : ℕ) (more rest : Bool) → (is_name_of vector index number cell ≡ true) ⊎ (more ≡ true) →
    (more ≡ true → rest ≡ true)
    → (is_at vector index (place_of cell) || rest) ≡ true
lent_by cell vector index number more rest (inl h) go =
    or_left (is_at vector index (place_of cell)) rest (two_of_three (nat_eq cell.vector vector) (nat_eq cell.index index) (nat_eq cell.number number) h)
lent_by cell vector index number more rest (inr h) go = or_right (is_at vector index (place_of cell)) rest (go h)

pub named_is_lent : (cells : List Cell) (vector index number : ℕ) → list_any (is_name_of vector index number) cells ≡ true →
    list_any (λ (cell : ℕ × ℕ). (cell.0 == vector) && (cell.1 == index)) (map place_of cells) ≡ true
named_is_lent [] vector index number h = cc
named_is_lent (cell ∷ cells) vector index number h =
    lent_by cell vector index number (list_any (is_name_of vector index number) cells) (list_any (is_at vector index) (map place_of cells))
    (either (is_name_of vector index number cell) (list_any (is_name_of vector index number) cells) h) (named_is_lent cells vector index number)

vector_by : (P : ℕ → Type 0) (cell : Cell) (vector index number : ℕ) (more : Bool) → (is_name_of vector index number cell ≡ true) ⊎ (more ≡ true) →
    P cell.vector → (more ≡ true → P vector) → P vector
vector_by P cell vector index number more (inl h) here go =
    subst P (is_number cell.vector vector (first_of (nat_eq cell.vector vector) (nat_eq cell.index index && nat_eq cell.number number) h)) here
vector_by P cell vector index number more (inr h) here go = go h

-- what is true of the vectors of all that are lent is true of the vector of one
pub named_vector : (P : ℕ → Type 0) (cells : List Cell) (vector index number : ℕ) → All (λ (cell : Cell). P cell.vector) cells →
    list_any (is_name_of vector index number) cells ≡ true → P vector
named_vector P [] vector index number all h = cc
named_vector P (cell ∷ cells) vector index number all h =
    vector_by P cell vector index number (list_any (is_name_of vector index number) cells)
    (either (is_name_of vector index number cell) (list_any (is_name_of vector index number) cells) h) (all zero cell (omega arith))
    (named_vector P cells vector index number (λ k d b. all (suc k) d (omega arith)))
