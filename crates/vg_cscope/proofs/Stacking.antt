-- Declarations that are put on the stack and taken off it.
use Rattle.std.proofs.Common.{◌≡◌, ℕ, zero, suc, ◌+◌, ◌<◌, ◌≤◌, List, [], ◌∷◌, ◌++◌, length, slice_get, Bool, true, false, Option, Some, None, refl}
use Rattle.std.proofs.Common.{sym, ap, subst, ◌∙◌, arith, inl, inr, if◌then◌else◌, eq-eqb, add-one}
use Rattle.std.specs.Prelude.{◌⊎◌, slice_set, nat_eq, replicate}
use Rattle.std.proofs.lemmas.Bool.{cases_lt, cases_Bool, eqb-true}
use Rattle.std.proofs.lemmas.List.{length-append, length-replicate}
use Rattle.std.proofs.lemmas.Option.{slice_get_within, same_Some}
use Rattle.vg_cscope.specs.declared.table.Entry.{Entry}
use Rattle.vg_cscope.specs.Scopes.{seen_at}
use Rattle.vg_cscope.specs.Names.{Scoped}
use Rattle.vg_cscope.specs.Tables.{bucket_at, declaration_of, at, has_bucket, last_in, IsTable}

-- ---- lists

pub get_seam : {A : Type 0} (xs : List A) (x : A) → slice_get (xs ++ x ∷ []) (length xs) ≡ Some x
get_seam [] x = refl
get_seam (y ∷ xs) x = get_seam xs x

pub get_front : {A : Type 0} (xs ys : List A) (n : ℕ) → n < length xs → slice_get (xs ++ ys) n ≡ slice_get xs n
get_front [] ys n h = absurd (omega arith)
get_front (x ∷ xs) ys zero h = refl
get_front (x ∷ xs) ys (suc n) h = get_front xs ys n (omega arith)

-- an item of a list with one more is of the list, or the one more
pub at_seam : {A : Type 0} (xs : List A) (x y : A) (n : ℕ) → slice_get (xs ++ x ∷ []) n ≡ Some y → ((n < length xs) × (slice_get xs n ≡ Some y))
    ⊎ ((n ≡ length xs) × (x ≡ y))
at_seam xs x y n e = elim (cases_lt n (length xs)) [
  | inl l ↦ inl (l, sym (get_front xs (x ∷ []) n l) ∙ e)
  | inr g ↦
      let within : n < length (xs ++ x ∷ []) = slice_get_within (xs ++ x ∷ []) n y e in
      let long : length (xs ++ x ∷ []) ≡ length xs + 1 = length-append xs (x ∷ []) in
      let same : n ≡ length xs = omega arith in
      inr (same, same_Some x y (sym (get_seam xs x) ∙ ap (slice_get (xs ++ x ∷ [])) (sym same) ∙ e))
]

long_seam : {A : Type 0} (xs : List A) (x : A) → length (xs ++ x ∷ []) ≡ suc (length xs)
long_seam xs x = length-append xs (x ∷ []) ∙ add-one (length xs)

length_set : {A : Type 0} (xs : List A) (i : ℕ) (v : A) → length (slice_set xs i v) ≡ length xs
length_set [] i v = refl
length_set (x ∷ xs) zero v = refl
length_set (x ∷ xs) (suc i) v = ap suc (length_set xs i v)

set_same : {A : Type 0} (xs : List A) (i : ℕ) (v : A) → i < length xs → slice_get (slice_set xs i v) i ≡ Some v
set_same [] i v h = absurd (omega arith)
set_same (x ∷ xs) zero v h = refl
set_same (x ∷ xs) (suc i) v h = set_same xs i v (omega arith)

pub set_past : {A : Type 0} (xs : List A) (i : ℕ) (v : A) → length xs ≤ i → slice_set xs i v ≡ xs
set_past [] i v h = refl
set_past (x ∷ xs) zero v h = absurd (omega arith)
set_past (x ∷ xs) (suc i) v h = ap (λ l. x ∷ l) (set_past xs i v (omega arith))

suc_other : (i j : ℕ) → nat_eq (suc i) (suc j) ≡ false → nat_eq i j ≡ false
suc_other i j h = grind arith

set_other : {A : Type 0} (xs : List A) (i j : ℕ) (v : A) → nat_eq i j ≡ false → slice_get (slice_set xs i v) j ≡ slice_get xs j
set_other [] i j v h = refl
set_other (x ∷ xs) zero zero v h = absurd (cc)
set_other (x ∷ xs) zero (suc j) v h = refl
set_other (x ∷ xs) (suc i) zero v h = refl
set_other (x ∷ xs) (suc i) (suc j) v h = set_other xs i j v (suc_other i j h)

-- ---- the lower part of a stack

pub at_front : (xs ys : List Entry) (h : ℕ) → h ≤ length xs → at (xs ++ ys) h ≡ at xs h
at_front xs ys zero h = refl
at_front xs ys (suc n) h = ap declaration_of (get_front xs ys n (omega arith))

pub last_front : (b : ℕ) (xs ys : List Entry) (h : ℕ) → h ≤ length xs → last_in b (xs ++ ys) h ≡ last_in b xs h
last_front b xs ys zero h = refl
last_front b xs ys (suc n) h =
    ap (λ e. if has_bucket b e then suc n else last_in b (xs ++ ys) n) (get_front xs ys n (omega arith))
    ∙ ap (λ r. if has_bucket b (slice_get xs n) then suc n else r) (last_front b xs ys n (omega arith))

last_seam : (b : ℕ) (xs : List Entry) (x : Entry) → last_in b (xs ++ x ∷ []) (length (xs ++ x ∷ [])) ≡
    (if nat_eq x.bucket b then suc (length xs) else last_in b xs (length xs))
last_seam b xs x =
    ap (last_in b (xs ++ x ∷ [])) (long_seam xs x)
    ∙ ap (λ e. if has_bucket b e then suc (length xs) else last_in b (xs ++ x ∷ []) (length xs)) (get_seam xs x)
    ∙ ap (λ r. if nat_eq x.bucket b then suc (length xs) else r) (last_front b xs (x ∷ []) (length xs) (omega arith))

-- ---- taking off

module _ (s : Scoped) (xs : List Entry) (x : Entry) (heads : List ℕ) where
  abbrev more : List Entry
  more = xs ++ x ∷ []

  front_of_more : (h : ℕ) (e : Entry) → slice_get xs h ≡ Some e → slice_get more h ≡ Some e
  front_of_more h e i = get_front xs (x ∷ []) h (slice_get_within xs h e i) ∙ i

  pub left : IsTable s more heads → IsTable s xs (slice_set heads x.bucket x.below)
  left t = record {
    some = subst (λ n. 0 < n) (sym (length_set heads x.bucket x.below)) t.some;
    chain = λ h e i. let l : h < length xs = slice_get_within xs h e i in t.chain h e (front_of_more h e i) ∙ at_front xs (x ∷ []) h (omega arith);
    buckets = λ h e i. t.buckets h e (front_of_more h e i) ∙ ap (λ n. bucket_at s n e.declaration) (sym (length_set heads x.bucket x.below));
    belows = λ h e i. let l : h < length xs = slice_get_within xs h e i in t.belows h e (front_of_more h e i) ∙ last_front e.bucket xs (x ∷ []) h (omega arith);
    heads_are = λ b l.
        let m : b < length heads = subst (λ n. b < n) (length_set heads x.bucket x.below) l in
        elim (cases_Bool (nat_eq x.bucket b)) [
          | inl same ↦
              let e : x.bucket ≡ b = eqb-true x.bucket b same in
              ap (λ i. slice_get (slice_set heads i x.below) b) e ∙ set_same heads b x.below m
              ∙ ap Some (t.belows (length xs) x (get_seam xs x) ∙ last_front x.bucket xs (x ∷ []) (length xs) (omega arith)
              ∙ ap (λ c. last_in c xs (length xs)) e)
          | inr other ↦
              set_other heads x.bucket b x.below other ∙ t.heads_are b m
              ∙ ap Some (last_seam b xs x ∙ ap (λ c. if c then suc (length xs) else last_in b xs (length xs)) other)
        ];
  }

  -- ---- putting on

  pub entered : IsTable s xs heads → seen_at s.standings x.declaration ≡ at xs (length xs) → x.bucket ≡ bucket_at s (length heads) x.declaration
      → slice_get heads x.bucket ≡ Some x.below → IsTable s more (slice_set heads x.bucket (length xs + 1))
  entered t sees hashes below = record {
    some = subst (λ n. 0 < n) (sym (length_set heads x.bucket (length xs + 1))) t.some;
    chain = λ h e i. elim (at_seam xs x e h i) [
      | inl l ↦ let m : h < length xs = l.0 in t.chain h e l.1 ∙ sym (at_front xs (x ∷ []) h (omega arith))
      | inr r ↦ ap (λ (y : Entry). seen_at s.standings y.declaration) (sym r.1) ∙ sees ∙ sym (at_front xs (x ∷ []) (length xs) (omega arith))
          ∙ ap (at more) (sym r.0)
    ];
    buckets = λ h e i. elim (at_seam xs x e h i) [
      | inl l ↦ t.buckets h e l.1 ∙ ap (λ n. bucket_at s n e.declaration) (sym (length_set heads x.bucket (length xs + 1)))
      | inr r ↦
          ap (λ (y : Entry). y.bucket) (sym r.1) ∙ hashes ∙ ap (λ (y : Entry). bucket_at s (length heads) y.declaration) r.1
          ∙ ap (λ n. bucket_at s n e.declaration) (sym (length_set heads x.bucket (length xs + 1)))
    ];
    belows = λ h e i. elim (at_seam xs x e h i) [
      | inl l ↦ let m : h < length xs = l.0 in t.belows h e l.1 ∙ sym (last_front e.bucket xs (x ∷ []) h (omega arith))
      | inr r ↦
          let within : x.bucket < length heads = slice_get_within heads x.bucket x.below below in
          ap (λ (y : Entry). y.below) (sym r.1)
          ∙ same_Some x.below (last_in x.bucket xs (length xs)) (sym below ∙ t.heads_are x.bucket within)
          ∙ sym (last_front x.bucket xs (x ∷ []) (length xs) (omega arith))
          ∙ ap (λ (y : Entry). last_in y.bucket more (length xs)) r.1 ∙ ap (last_in e.bucket more) (sym r.0)
    ];
    heads_are = λ b l.
        let m : b < length heads = subst (λ n. b < n) (length_set heads x.bucket (length xs + 1)) l in
        elim (cases_Bool (nat_eq x.bucket b)) [
          | inl same ↦
              let e : x.bucket ≡ b = eqb-true x.bucket b same in
              ap (λ i. slice_get (slice_set heads i (length xs + 1)) b) e ∙ set_same heads b (length xs + 1) m
              ∙ ap Some (add-one (length xs) ∙ sym (last_seam b xs x ∙ ap (λ c. if c then suc (length xs) else last_in b xs (length xs)) same))
          | inr other ↦
              set_other heads x.bucket b (length xs + 1) other ∙ t.heads_are b m
              ∙ ap Some (sym (last_seam b xs x ∙ ap (λ c. if c then suc (length xs) else last_in b xs (length xs)) other))
        ];
  }

-- ---- nothing on it

zeros_are : (n b : ℕ) → b < n → slice_get (replicate n zero) b ≡ Some zero
zeros_are zero b h = absurd (omega arith)
zeros_are (suc n) zero h = refl
zeros_are (suc n) (suc b) h = zeros_are n b (omega arith)

pub empty : (s : Scoped) (n : ℕ) → IsTable s [] (replicate (n + 1) zero)
empty s n =
    let one : n + 1 ≡ suc n = add-one n in
    subst (λ m. IsTable s [] (replicate m zero)) (sym one) (record {
      some = omega arith;
      chain = λ h e i. absurd (cc);
      buckets = λ h e i. absurd (cc);
      belows = λ h e i. absurd (cc);
      heads_are = λ b l. zeros_are (suc n) b (subst (λ m. b < m) (length-replicate (suc n) zero) l);
    })
