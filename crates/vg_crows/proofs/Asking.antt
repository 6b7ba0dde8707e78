-- What is known after a question to the library.
use Rattle.std.proofs.Common.{◌≡◌, sym, ap, refl, ℕ, Bool, true, false, Option, Some, None, Err}
use Rattle.std.specs.Prelude.{option_map}
use Rattle.vg_abs.specs.Library.{Library, Asks, Becomes}
use Rattle.vg_crows.specs.declared.answer.Stop.TheVariants as stops
use Rattle.vg_crows.specs.Rows.{decided}
use Rattle.vg_crows.specs.Views.{IsUntouched}

-- a question that leaves all as it is, with its answer by the program
abbrev pub Asked : {A R : Type 0} → Library → Library → Option A → (A → R) → R → Type 0
Asked s t q f r = Asks s t q (λ a. (r ≡ f a) × Becomes s t s.state)

pub untold_is : {A R : Type 0} (s t : Library) (q : Option A) (f : A → R) (r : R) → Asked s t q f r → s.missed ≡ false → t.missed ≡ true → q ≡ None
untold_is s t None f r asked m n = refl
untold_is s t (Some a) f r asked m n = let same = (asked.told m a refl).1.same_missed in absurd (cc (same, m, n))

pub told_is : {A R : Type 0} (s t : Library) (q : Option A) (f : A → R) (r : R) → Asked s t q f r → s.missed ≡ false → t.missed ≡ false
    → option_map f q ≡ Some r
told_is s t None f r asked m n = let missed = (asked.untold refl).missed in absurd (cc (missed, n))
told_is s t (Some a) f r asked m n = ap Some (sym (asked.told m a refl).0)

pub untouched : {A R : Type 0} (s t : Library) (q : Option A) (f : A → R) (r : R) → Asked s t q f r → s.missed ≡ false → IsUntouched s t
untouched s t None f r asked m =
    let misses = asked.untold refl in
    record { state_is = misses.state_stays; same_lent = misses.lent_stays; same_choices = misses.choices_stay }
untouched s t (Some a) f r asked m =
    let becomes = (asked.told m a refl).1 in
    record { state_is = becomes.state_is; same_lent = becomes.same_lent; same_choices = becomes.same_choices }

pub decided_untold : {A : Type 0} (q : Option A) (f : A → Bool) (row : ℕ) → q ≡ None → Err stops.Untold ≡ decided row (option_map f q)
decided_untold q f row e = sym (ap (λ o. decided row (option_map f o)) e)

pub decided_told : {A : Type 0} (q : Option A) (f : A → Bool) (row : ℕ) (r : Bool) → option_map f q ≡ Some r → decided row (Some r) ≡ decided row
    (option_map f q)
decided_told q f row r e = sym (ap (decided row) e)

pub told_as : {A : Type 0} (s t : Library) (q : Option A) (r : A) → Asked s t q (λ a. a) r → s.missed ≡ false → t.missed ≡ false → q ≡ Some r
told_as s t None r asked m n = let missed = (asked.untold refl).missed in absurd (cc (missed, n))
told_as s t (Some a) r asked m n = ap Some (sym (asked.told m a refl).0)
