-- Handles in a list: one more, one changed.
use Rattle.std.proofs.Common.{◌≡◌, ◌≢◌, ℕ, zero, suc, ◌+◌, ◌<◌, List, [], ◌∷◌, ◌++◌, length, set, get_or, None, IsSome, refl, sym, ◌∙◌, ap, arith}
use mathlib.Core.Path.{fun_ext}
use Rattle.std.proofs.lemmas.Bool.{false≢true}
use Rattle.vg_base.specs.declared.handles.Handle.{Handle}
use Rattle.vg_base.specs.declared.handles.Handle.TheVariants.{Reading, Writing, Closed}
use Rattle.vg_base.specs.Handle.{opened_at, open_handles, seen, weight}

pub opened-within : {T : Type 0} (xs : List (Handle T)) (id : ℕ) → IsSome (opened_at xs id) → id < length xs
opened-within [] id h = absurd (false≢true h)
opened-within (x ∷ xs) zero h = omega arith
opened-within (x ∷ xs) (suc id) h = omega (arith, opened-within xs id h)

pub opened-past : {T : Type 0} (xs : List (Handle T)) → opened_at xs (length xs) ≡ None
opened-past [] = refl
opened-past (x ∷ xs) = opened-past xs

pub opened-push : {T : Type 0} (xs : List (Handle T)) (s : Handle T) → opened_at (xs ++ s ∷ []) (length xs) ≡ seen s
opened-push [] s = refl
opened-push (x ∷ xs) s = opened-push xs s

pub opened-push_other : {T : Type 0} (xs : List (Handle T)) (s : Handle T) (j : ℕ) → j ≢ length xs → opened_at (xs ++ s ∷ []) j ≡ opened_at xs j
opened-push_other [] s zero ne = absurd (ne refl)
opened-push_other [] s (suc j) ne = refl
opened-push_other (x ∷ xs) s zero ne = refl
opened-push_other (x ∷ xs) s (suc j) ne = opened-push_other xs s j (λ e. ne (ap suc e))

pub open_handles-push : {T : Type 0} (xs : List (Handle T)) (s : Handle T) → open_handles (xs ++ s ∷ []) ≡ open_handles xs + weight s
open_handles-push [] s = omega arith
open_handles-push (x ∷ xs) s = omega (arith, open_handles-push xs s)

pub opened-set : {T : Type 0} (xs : List (Handle T)) (id : ℕ) (s : Handle T) → id < length xs → opened_at (set xs id s) id ≡ seen s
opened-set [] id s h = absurd (omega arith)
opened-set (x ∷ xs) zero s h = refl
opened-set (x ∷ xs) (suc id) s h = opened-set xs id s (omega arith)

pub opened-set_other : {T : Type 0} (xs : List (Handle T)) (id : ℕ) (s : Handle T) (j : ℕ) → j ≢ id → opened_at (set xs id s) j ≡ opened_at xs j
opened-set_other [] id s j ne = refl
opened-set_other (x ∷ xs) zero s zero ne = absurd (ne refl)
opened-set_other (x ∷ xs) zero s (suc j) ne = refl
opened-set_other (x ∷ xs) (suc id) s zero ne = refl
opened-set_other (x ∷ xs) (suc id) s (suc j) ne = opened-set_other xs id s j (λ e. ne (ap suc e))

pub open_handles-close : {T : Type 0} (xs : List (Handle T)) (id : ℕ) → IsSome (opened_at xs id) → open_handles (set xs id Closed) + 1 ≡ open_handles xs
open_handles-close [] id h = absurd (false≢true h)
open_handles-close (Reading f ∷ xs) zero h = omega arith
open_handles-close (Writing f ∷ xs) zero h = omega arith
open_handles-close (Closed ∷ xs) zero h = absurd (false≢true h)
open_handles-close (x ∷ xs) (suc id) h = omega (arith, open_handles-close xs id h)

kept_at : {T : Type 0} (xs : List (Handle T)) (id : ℕ) (s : Handle T) → opened_at xs id ≡ seen s → id < length xs → (j : ℕ)
    → opened_at (set xs id s) j ≡ opened_at xs j
kept_at [] id s e h j = refl
kept_at (x ∷ xs) zero s e h zero = sym e
kept_at (x ∷ xs) zero s e h (suc j) = refl
kept_at (x ∷ xs) (suc id) s e h zero = refl
kept_at (x ∷ xs) (suc id) s e h (suc j) = kept_at xs id s e (omega arith) j

-- a handle that is seen as before
pub opened-kept : {T : Type 0} (xs : List (Handle T)) (id : ℕ) (s : Handle T) → opened_at xs id ≡ seen s → id < length xs
    → opened_at (set xs id s) ≡ opened_at xs
opened-kept xs id s e h = fun_ext (kept_at xs id s e h)

-- a handle of the same weight
pub open_handles-kept : {T : Type 0} (xs : List (Handle T)) (id : ℕ) (x s : Handle T) → x ≡ get_or xs id x → weight s ≡ weight x → id < length xs
    → open_handles (set xs id s) ≡ open_handles xs
open_handles-kept [] id x s e w h = absurd (omega arith)
open_handles-kept (y ∷ xs) zero x s e w h = let same : weight s ≡ weight y = w ∙ ap weight e in omega (arith, same)
open_handles-kept (y ∷ xs) (suc id) x s e w h = omega (arith, open_handles-kept xs id x s e w (omega arith))

-- what is seen of an id is what is seen of its handle
pub opened-get : {T : Type 0} (xs : List (Handle T)) (id : ℕ) (x : Handle T) → id < length xs → x ≡ get_or xs id x → opened_at xs id ≡ seen x
opened-get [] id x h e = absurd (omega arith)
opened-get (y ∷ xs) zero x h e = ap seen (sym e)
opened-get (y ∷ xs) (suc id) x h e = opened-get xs id x (omega arith) e
