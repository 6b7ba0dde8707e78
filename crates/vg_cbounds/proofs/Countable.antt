-- Whether typing could count a loop, by its three parts.
use Rattle.std.proofs.Common.{◌≡◌, ℕ, ◌≤◌, ◌<◌, Bool, true, false, ◌&&◌, is_some, List, length, take, slice_get, Option, Some, None, refl, sym, ap}
use Rattle.std.proofs.Common.{subst, arith, ◌∙◌, ◌⊎◌, inl, inr}
use Rattle.std.proofs.lemmas.Option.{slice_get_past}
use Rattle.std.proofs.lemmas.List.{length-take}
use Rattle.vg_core.specs.declared.tree.IntType.{IntType}
use Rattle.vg_core.specs.declared.types.Integer.{Integer}
use Rattle.vg_core.specs.Units.{Typed}
use Rattle.vg_core.specs.declared.unit.Note.{Note}
use Rattle.vg_ctyper.specs.Names.{Known}
use Rattle.vg_ctyper.specs.Types.{◌>>=◌, integer_at, word_at, number, number_at}
use Rattle.vg_ctyper.specs.StatementRules as rules
use Rattle.vg_cbounds.specs.Bounds.{is_number}
use Rattle.vg_cbounds.proofs.Ties.{get_take}
use Rattle.vg_cbounds.proofs.Loops.{get_untake}

-- a note on a node before
some_or : {A : Type 0} (o : Option A) → (o ≡ None) ⊎ ((x : A) × (o ≡ Some x))
some_or None = inl refl
some_or (Some x) = inr (x, refl)

before_by : {A : Type 0} (xs : List A) (n p : ℕ) → p < n → (slice_get xs p ≡ None) ⊎ ((x : A) × (slice_get xs p ≡ Some x)) →
    (slice_get (take n xs) p ≡ None) ⊎ ((x : A) × (slice_get (take n xs) p ≡ Some x)) → slice_get xs p ≡ slice_get (take n xs) p
before_by xs n p h (inr some) other = some.1 ∙ sym (get_take xs n p some.0 h some.1)
before_by xs n p h (inl none) (inl other) = none ∙ sym other
before_by xs n p h (inl none) (inr other) = get_untake xs n p other.0 other.1 ∙ sym other.1

pub note_before : {A : Type 0} (xs : List A) (n p : ℕ) → p < n → slice_get xs p ≡ slice_get (take n xs) p
note_before xs n p h = before_by xs n p h (some_or (slice_get xs p)) (some_or (slice_get (take n xs) p))

pub no_note : {A : Type 0} (xs : List A) (n p : ℕ) → n ≤ p → slice_get (take n xs) p ≡ None
no_note xs n p h = let e = length-take n xs in slice_get_past (take n xs) p (omega arith)

-- ---- loops

turns_by : (a b c : Option ℕ) (v : Option Integer) (f : Integer → ℕ → ℕ → ℕ → ℕ) → (v ≡ None → b ≡ None) →
    is_some (a >>= λ x. b >>= λ y. v >>= λ t. c >>= λ d. Some (f t x y d)) ≡ (is_some a && (is_some b && is_some c))
turns_by None b c v f h = refl
turns_by (Some x) None c v f h = refl
turns_by (Some x) (Some y) c None f h = let e = h refl in cc
turns_by (Some x) (Some y) None (Some t) f h = refl
turns_by (Some x) (Some y) (Some d) (Some t) f h = refl

no_number : (k : Known) (p : ℕ) → integer_at k p ≡ None → number_at k p ≡ None
no_number k p e = ap (λ (o : Option Integer). (o >>= λ t. word_at k p >>= λ w. Some (record { of = t; word = w })) >>= number) e

all_three : (a b s n : Bool) → (n ≡ true → s ≡ true) → ((a && (b && s)) && n) ≡ (a && b && n)
all_three true true true n h = refl
all_three true true false true h = let e = h refl in cc
all_three true true false false h = refl
all_three true false s n h = refl
all_three false b s n h = refl

number_there : (o : Option ℕ) (n : ℕ) → is_number o n ≡ true → is_some o ≡ true
number_there None n h = cc
number_there (Some a) n h = refl

pub counted_is : (k : Known) (of : IntType) (start bound : ℕ) (step : Option ℕ) (n : ℕ) →
    (is_some (rules.turns k of start bound step) && is_number (rules.step_number k step) n)
    ≡ (is_some (number_at k start) && is_some (number_at k bound) && is_number (rules.step_number k step) n)
counted_is k of start bound step n =
    ap (λ (c : Bool). c && is_number (rules.step_number k step) n)
    (turns_by (number_at k start) (number_at k bound) (rules.step_number k step) (integer_at k bound) (rules.turns_of of) (no_number k bound))
    ∙ all_three (is_some (number_at k start)) (is_some (number_at k bound)) (is_some (rules.step_number k step)) (is_number (rules.step_number k step) n)
    (number_there (rules.step_number k step) n)
