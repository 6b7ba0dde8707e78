-- Parts of a list, seen past a write.
use Rattle.std.proofs.Common.{◌≡◌, ℕ, zero, suc, ◌+◌, ◌<◌, ◌≤◌, List, [], ◌∷◌, length, slice_set, inl, inr, ◌⊎◌, refl, ap, ◌∙◌, arith}
use Rattle.vg_cmemory.specs.Access.{put, part}
use Rattle.vg_cmemory.specs.Laws.{FrameWritesStayInside}

part_outside : {A : Type 0} (xs : List A) (i from size : ℕ) (v : A) → (i < from) ⊎ (from + size ≤ i) → part (slice_set xs i v) from size ≡ part xs from size
part_outside xs i from zero v h = refl
part_outside [] i from (suc size) v h = refl
part_outside (x ∷ xs) zero zero (suc size) v (inl h) = absurd (omega arith)
part_outside (x ∷ xs) zero zero (suc size) v (inr h) = absurd (omega arith)
part_outside (x ∷ xs) zero (suc from) (suc size) v h = refl
part_outside (x ∷ xs) (suc i) zero (suc size) v (inl h) = absurd (omega arith)
part_outside {A} (x ∷ xs) (suc i) zero (suc size) v (inr h) = ap (λ (ys : List A). x ∷ ys) (part_outside xs i zero size v (inr (omega arith)))
part_outside (x ∷ xs) (suc i) (suc from) (suc size) v (inl h) = part_outside xs i from (suc size) v (inl (omega arith))
part_outside (x ∷ xs) (suc i) (suc from) (suc size) v (inr h) = part_outside xs i from (suc size) v (inr (omega arith))

further : {A : Type 0} (n : A) (new : List A) (at from size : ℕ) → (at + length (n ∷ new) ≤ from) ⊎ (from + size ≤ at) → (at + 1 + length new ≤ from)
    ⊎ (from + size ≤ at + 1)
further n new at from size (inl h) = inl (omega arith)
further n new at from size (inr h) = inr (omega arith)

differs : {A : Type 0} (n : A) (new : List A) (at from size : ℕ) → (at + length (n ∷ new) ≤ from) ⊎ (from + size ≤ at) → (at < from) ⊎ (from + size ≤ at)
differs n new at from size (inl h) = inl (omega arith)
differs n new at from size (inr h) = inr h

pub put_outside : {A : Type 0} (xs new : List A) (at from size : ℕ) → (at + length new ≤ from) ⊎ (from + size ≤ at)
    → part (put xs at new) from size ≡ part xs from size
put_outside xs [] at from size h = refl
put_outside xs (n ∷ new) at from size h = put_outside (slice_set xs at n) new (at + 1) from size (further n new at from size h)
    ∙ part_outside xs at from size n (differs n new at from size h)

pub frame_writes : FrameWritesStayInside
frame_writes frame new at from size h = put_outside frame new at from size h
