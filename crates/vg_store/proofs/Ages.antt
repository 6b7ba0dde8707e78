-- Indices with their times, by age.
use Rattle.std.proofs.Common.{◌≡◌, ℕ, zero, suc, ◌<◌, ◌≤◌, List, [], ◌∷◌, ◌++◌, length, take, drop, Some, None, refl, sym, ◌∙◌, ap, subst, arith}
use Rattle.std.proofs.Common.{Bool, true, false, cond, inl, inr}
use Rattle.std.specs.Prelude.{All, nat_lt, ◌||◌, count_by}
use Rattle.std.specs.List.{list_any}
use Rattle.std.proofs.lemmas.Bool.{cases_eq, cases_lt, eq-eqb, ne_eqb, lt-ltb, le-ltb}
use Rattle.std.proofs.lemmas.List.Elements.{All-nil, All-cons}
use Rattle.std.proofs.lemmas.List.Sums.{sum_by-cons}
use Rattle.vg_dchain.specs.Indices.{IsAbsent, IsDistinct, AllBelow}
use Rattle.vg_dchain.specs.ChainState.{time_at, others, oldest_below, RisesWithin, indices}
use Rattle.vg_dchain.proofs.TimeLemmas.{oldest_below-none}
use Rattle.vg_plain.proofs.ListPlaces.{some_is, none_some}

pub time_absent : (es : List (ℕ × ℕ)) (i : ℕ) → IsAbsent i (indices es) → time_at es i ≡ None
time_absent [] i a = refl
time_absent (e ∷ es) i a = ap (λ b. cond b (Some e.1) (time_at es i)) (ne_eqb e.0 i (λ same. a.0 (sym same))) ∙ time_absent es i a.1

pub time_past : (r : ℕ) (es : List (ℕ × ℕ)) (q : ℕ) → AllBelow r (indices es) → r ≤ q → time_at es q ≡ None
time_past r [] q below past = refl
time_past r (e ∷ es) q below past =
    ap (λ b. cond b (Some e.1) (time_at es q)) (ne_eqb e.0 q (λ same. absurd (let less : e.0 < r = below.0 in omega arith))) ∙ time_past r es q below.1 past

others_absent : (es : List (ℕ × ℕ)) (i : ℕ) → IsAbsent i (indices es) → others es i ≡ es
others_absent [] i a = refl
others_absent (e ∷ es) i a = rw (ne_eqb e.0 i (λ same. a.0 (sym same))) (ap (λ (rest : List (ℕ × ℕ)). e ∷ rest) (others_absent es i a.1))

pub others_first : (i t : ℕ) (es : List (ℕ × ℕ)) → IsAbsent i (indices es) → others ((i, t) ∷ es) i ≡ es
others_first i t es a = rw (eq-eqb i i refl) (others_absent es i a)

-- the first index that is below the bound is the oldest
pub record IsFirst (before i : ℕ) (es : List (ℕ × ℕ)) : Type 0 where
  pub time : ℕ
  pub rest : List (ℕ × ℕ)
  pub is : es ≡ (i, time) ∷ rest
  pub early : time < before

pub first_below : (before low high i : ℕ) (es : List (ℕ × ℕ)) → RisesWithin low es high → oldest_below before es ≡ Some i → IsFirst before i es
first_below before low high i [] rises is = absurd (none_some i is)
first_below before low high i (e ∷ es) rises is = elim (cases_lt e.1 before) [
  | inl less ↦ record {
    time = e.1;
    rest = es;
    is = ap (λ (k : ℕ). (k, e.1) ∷ es) (some_is e.0 i (sym (ap (λ b. cond b (Some e.0) (oldest_below before es)) (lt-ltb e.1 before less)) ∙ is));
    early = less;
  }
  | inr more ↦ absurd (none_some i (sym (ap (λ b. cond b (Some e.0) (oldest_below before es)) (le-ltb e.1 before more)
      ∙ oldest_below-none before e.1 es high more rises.1) ∙ is))
]

pub all_late : (before : ℕ) (es : List (ℕ × ℕ)) → oldest_below before es ≡ None → All (λ entry. before ≤ entry.1) es
all_late before [] none = All-nil (λ entry. before ≤ entry.1)
all_late before (e ∷ es) none = elim (cases_lt e.1 before) [
  | inl less ↦ absurd (none_some e.0 (sym none ∙ ap (λ b. cond b (Some e.0) (oldest_below before es)) (lt-ltb e.1 before less)))
  | inr more ↦ All-cons (λ entry. before ≤ entry.1) e es more
      (all_late before es (sym (ap (λ b. cond b (Some e.0) (oldest_below before es)) (le-ltb e.1 before more)) ∙ none))
]

-- the item behind the first n
pub record Behind {X : Type 0} (n : ℕ) (x : X) (rest xs : List X) : Type 0 where
  pub inside : n < length xs
  pub left : drop (suc n) xs ≡ rest
  pub done : take (suc n) xs ≡ take n xs ++ x ∷ []

no_items : {X A : Type 0} (x : X) (rest : List X) → [] ≡ x ∷ rest → A
no_items x rest is = absurd (cc)

pub behind : {X : Type 0} (n : ℕ) (x : X) (rest xs : List X) → drop n xs ≡ x ∷ rest → Behind n x rest xs
behind zero x rest [] is = no_items x rest is
behind (suc n) x rest [] is = no_items x rest is
behind zero x rest (y ∷ ys) is = record { inside = omega arith; left = ap (λ l. drop 1 l) is; done = ap (λ l. take 1 l) is }
behind (suc n) x rest (y ∷ ys) is =
    let b : Behind n x rest ys = behind n x rest ys is in
    record { inside = (let less : n < length ys = b.inside in omega arith); left = b.left; done = ap (λ l. y ∷ l) b.done }

-- front and back
pub time_front : (front back : List (ℕ × ℕ)) (i t : ℕ) → time_at front i ≡ Some t → time_at (front ++ back) i ≡ Some t
time_front [] back i t there = absurd (none_some t there)
time_front (e ∷ front) back i t there = elim (cases_eq e.0 i) [
  | inl same ↦ rw (eq-eqb e.0 i same) (rw (eq-eqb e.0 i same) at there)
  | inr ne ↦ rw (ne_eqb e.0 i ne) (time_front front back i t (rw (ne_eqb e.0 i ne) at there))
]

pub time_back : (front back : List (ℕ × ℕ)) (i : ℕ) → time_at front i ≡ None → time_at (front ++ back) i ≡ time_at back i
time_back [] back i none = refl
time_back (e ∷ front) back i none = elim (cases_eq e.0 i) [
  | inl same ↦ absurd (none_some e.1 (sym none ∙ ap (λ b. cond b (Some e.1) (time_at front i)) (eq-eqb e.0 i same)))
  | inr ne ↦ rw (ne_eqb e.0 i ne) (time_back front back i (rw (ne_eqb e.0 i ne) at none))
]

absent_back : (front back : List (ℕ × ℕ)) (i : ℕ) → IsAbsent i (indices (front ++ back)) → IsAbsent i (indices back)
absent_back [] back i a = a
absent_back (e ∷ front) back i a = absent_back front back i a.1

pub time_apart : (front back : List (ℕ × ℕ)) (i t : ℕ) → IsDistinct (indices (front ++ back)) → time_at front i ≡ Some t → time_at back i ≡ None
time_apart [] back i t distinct there = absurd (none_some t there)
time_apart (e ∷ front) back i t distinct there = elim (cases_eq e.0 i) [
  | inl same ↦ time_absent back i (absent_back front back i (subst (λ (k : ℕ). IsAbsent k (indices (front ++ back))) same distinct.0))
  | inr ne ↦ time_apart front back i t distinct.1 (rw (ne_eqb e.0 i ne) at there)
]

pub all_at : (P : ℕ → Type 0) (es : List (ℕ × ℕ)) (i t : ℕ) → All (λ entry. P entry.1) es → time_at es i ≡ Some t → P t
all_at P [] i t all there = absurd (none_some t there)
all_at P (e ∷ es) i t all there = elim (cases_eq e.0 i) [
  | inl same ↦ subst P (some_is e.1 t (sym (ap (λ b. cond b (Some e.1) (time_at es i)) (eq-eqb e.0 i same)) ∙ there)) (all 0 e (omega arith))
  | inr ne ↦ all_at P es i t (λ k d less. all (suc k) d (omega arith)) (rw (ne_eqb e.0 i ne) at there)
]

either : (a b : Bool) → a ≡ true → (a || b) ≡ true
either a b is = rw is refl

later : (a b : Bool) → b ≡ true → (a || b) ≡ true
later true b is = refl
later false b is = is

-- an index that passes a test
pub any_at : (test : ℕ → Bool) (es : List (ℕ × ℕ)) (i t : ℕ) → time_at es i ≡ Some t → test i ≡ true → list_any (λ entry. test entry.0) es ≡ true
any_at test [] i t there passes = absurd (none_some t there)
any_at test (e ∷ es) i t there passes = elim (cases_eq e.0 i) [
  | inl same ↦ either (test e.0) (list_any (λ entry. test entry.0) es) (ap test same ∙ passes)
  | inr ne ↦ later (test e.0) (list_any (λ entry. test entry.0) es) (any_at test es i t (rw (ne_eqb e.0 i ne) at there) passes)
]

pub record Passes (test : ℕ → Bool) (es : List (ℕ × ℕ)) : Type 0 where
  pub index : ℕ
  pub time : ℕ
  pub there : time_at es index ≡ Some time
  pub passes : test index ≡ true

further_passes : (test : ℕ → Bool) (e : ℕ × ℕ) (es : List (ℕ × ℕ)) → Passes test es → Passes test (e ∷ es)
further_passes test e es p = elim (cases_eq e.0 p.index) [
  | inl same ↦ record { index = p.index; time = e.1; there = ap (λ b. cond b (Some e.1) (time_at es p.index)) (eq-eqb e.0 p.index same); passes = p.passes }
  | inr ne ↦ record {
    index = p.index;
    time = p.time;
    there = ap (λ b. cond b (Some e.1) (time_at es p.index)) (ne_eqb e.0 p.index ne)
        ∙ p.there;
    passes = p.passes;
  }
]

one_passes : (test : ℕ → Bool) (e : ℕ × ℕ) (es : List (ℕ × ℕ)) (b : Bool) → test e.0 ≡ b →
    (list_any (λ entry. test entry.0) es ≡ true → Passes test es) → (b || list_any (λ entry. test entry.0) es) ≡ true → Passes test (e ∷ es)
one_passes test e es true here rest any =
    record { index = e.0; time = e.1; there = ap (λ b. cond b (Some e.1) (time_at es e.0)) (eq-eqb e.0 e.0 refl); passes = here }
one_passes test e es false here rest any = further_passes test e es (rest any)

pub at_any : (test : ℕ → Bool) (es : List (ℕ × ℕ)) → list_any (λ entry. test entry.0) es ≡ true → Passes test es
at_any test [] is = absurd (cc)
at_any test (e ∷ es) is = one_passes test e es (test e.0) refl (λ any. at_any test es any) is

-- how many are early
none_early : (before : ℕ) (es : List (ℕ × ℕ)) → All (λ entry. before ≤ entry.1) es → count_by (λ entry. nat_lt entry.1 before) es ≡ 0
none_early before [] late = refl
none_early before (e ∷ es) late =
    let more : before ≤ e.1 = late 0 e (omega arith) in
    let off : ◌≡◌ {A = ℕ} (cond (nat_lt e.1 before) 1 0) 0 = ap (λ b. cond b 1 0) (le-ltb e.1 before more) in
    omega (arith, sum_by-cons (λ (entry : ℕ × ℕ). cond (nat_lt entry.1 before) 1 0) e es, off, none_early before es (λ k d less. late (suc k) d (omega arith)))

pub early_are : (before n : ℕ) (es : List (ℕ × ℕ)) → n ≤ length es → All (λ entry. entry.1 < before) (take n es)
    → All (λ entry. before ≤ entry.1) (drop n es) → count_by (λ entry. nat_lt entry.1 before) es ≡ n
early_are before zero es within early late = none_early before es late
early_are before (suc n) [] within early late = absurd (omega arith)
early_are before (suc n) (e ∷ es) within early late =
    let less : e.1 < before = early 0 e (omega arith) in
    let on : ◌≡◌ {A = ℕ} (cond (nat_lt e.1 before) 1 0) 1 = ap (λ b. cond b 1 0) (lt-ltb e.1 before less) in
    omega (
      arith,
      sum_by-cons (λ (entry : ℕ × ℕ). cond (nat_lt entry.1 before) 1 0) e es,
      on,
      early_are before n es (omega arith) (λ k d within_rest. early (suc k) d (omega arith)) late,
    )
