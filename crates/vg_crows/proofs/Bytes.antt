-- Bytes over those of a cell.
use Rattle.std.proofs.Common.{◌≡◌, ◌∙◌, sym, ap, refl, ℕ, zero, suc, ◌+◌, ◌≤◌, ◌/◌, List, [], ◌∷◌, ◌++◌, length, take, drop, slice_set, replicate, Option, Some}
use Rattle.std.proofs.Common.{arith}
use Rattle.std.specs.Prelude.{unwrap_or}
use Rattle.vg_cmemory.specs.Access.{put, bytes_of_word}
use Rattle.vg_abs.specs.State as library
use Rattle.vg_abs.specs.Effects.{with_bytes}
use Rattle.vg_crows.specs.Access.{over}

put_next : {A : Type 0} (xs ys : List A) (x : A) (at place : ℕ) → place ≡ suc at → put (x ∷ xs) place ys ≡ x ∷ put xs at ys
put_next xs [] x at place e = refl
put_next xs (y ∷ ys) x at zero e = absurd (omega arith)
put_next {A} xs (y ∷ ys) x at (suc place) e =
    let same : place ≡ at = omega arith in
    put_next (slice_set xs place y) ys x (place + 1) (suc place + 1) (omega arith)
    ∙ ap (λ (k : ℕ). x ∷ put (slice_set xs k y) (k + 1) ys) same

take_put : {A : Type 0} (zs xs : List A) (size : ℕ) → length xs ≡ size → size ≤ length zs → take size (put zs 0 xs) ≡ xs
take_put zs [] size e h = let none : size ≡ 0 = omega arith in ap (λ (n : ℕ). take n zs) none
take_put [] (x ∷ xs) size e h = absurd (omega arith)
take_put (z ∷ zs) (x ∷ xs) zero e h = absurd (omega arith)
take_put {A} (z ∷ zs) (x ∷ xs) (suc size) e h =
    ap (take (suc size)) (put_next zs xs x 0 1 refl) ∙ ap (λ (ys : List A). x ∷ ys) (take_put zs xs size (omega arith) (omega arith))

length_word : (size word : ℕ) → length (bytes_of_word size word) ≡ size
length_word zero word = refl
length_word (suc size) word = ap suc (length_word size (word / 256))

-- the first bytes of a room of eight that a word was written to
pub taken : (size word : ℕ) (new : List ℕ) → size ≤ 8 → new ≡ put (replicate 8 0) 0 (bytes_of_word size word) → take size new ≡ bytes_of_word size word
taken size word new h e = ap (take size) e ∙ take_put (replicate 8 0) (bytes_of_word size word) size (length_word size word) h

pub over_same : (state : library.State) (vector index at : ℕ) (told : Option (List ℕ)) (cell bytes word : List ℕ) → told ≡ Some cell → bytes ≡ word →
    with_bytes state vector index (take at cell ++ bytes ++ drop (at + length bytes) cell) ≡ with_bytes state vector index (over (unwrap_or told []) at word)
over_same state vector index at told cell bytes word e f =
    ap (λ (xs : List ℕ). with_bytes state vector index (over cell at xs)) f
    ∙ ap (λ (o : Option (List ℕ)). with_bytes state vector index (over (unwrap_or o []) at word)) (sym e)
