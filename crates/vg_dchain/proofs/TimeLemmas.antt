-- Indices with times: look-ups, what is left without an index, and the order of times.
use Rattle.std.specs.Prelude.{◌≢◌, ◌==◌, Contains, if◌then◌else◌}
use Rattle.std.proofs.Common.{ℕ, suc, ◌<◌, ◌≤◌, true, Option, Some, None, List, [], ◌∷◌, ◌++◌, length, get_or, set, is_some, inl, inr, sym, refl, ap}
use Rattle.std.proofs.Common.{◌∙◌, ◌≡◌, arith}
use Rattle.std.specs.Prelude.{unwrap_or}
use Rattle.std.proofs.lemmas.Bool.{cases_eq, eq-eqb, ne_eqb, lt-ltb, le-ltb, false≢true}
use Rattle.std.proofs.lemmas.List.{get_or-set_other}
use Rattle.vg_dchain.specs.Indices.{IsAbsent, without}
use Rattle.vg_dchain.specs.ChainState.{time_at, others, oldest_below, RisesWithin, indices}
use Rattle.vg_dchain.specs.Times.{stamps_of}

pub time_at-here : (i t : ℕ) (es : List (ℕ × ℕ)) → time_at ((i, t) ∷ es) i ≡ Some t
time_at-here i t es = rw (eq-eqb i i refl) refl

pub time_at-past : (j t i : ℕ) (es : List (ℕ × ℕ)) → j ≢ i → time_at ((j, t) ∷ es) i ≡ time_at es i
time_at-past j t i es h = rw (ne_eqb j i h) refl

-- an index that isn't there has no time
pub time_at-absent : (times : List (Option ℕ)) (order : List ℕ) (i : ℕ) → IsAbsent i order → time_at (stamps_of times order) i ≡ None
time_at-absent times [] i a = refl
time_at-absent times (x ∷ xs) i a = time_at-past x (unwrap_or (get_or times x None) 0) i (stamps_of times xs) (λ (e : x ≡ i). a.0 (sym e))
    ∙ time_at-absent times xs i a.1

-- an index with a time is there
pub held : (times : List (Option ℕ)) (order : List ℕ) (i : ℕ) → is_some (time_at (stamps_of times order) i) ≡ true → Contains order i
held times [] i h = absurd (false≢true h)
held times (x ∷ xs) i h =
    elim (cases_eq x i) [
      | inl e ↦ (0, omega arith, e)
      | inr n ↦
          let rest : Contains xs i = held times xs i
          (ap (λ (o : Option ℕ). is_some o) (sym (time_at-past x (unwrap_or (get_or times x None) 0) i (stamps_of times xs) n)) ∙ h) in
          (suc rest.0, omega (arith, rest.1), rest.2)
    ]

-- one more entry at the end
pub time_at-push_same : (es : List (ℕ × ℕ)) (i t : ℕ) → time_at es i ≡ None → time_at (es ++ (i, t) ∷ []) i ≡ Some t
time_at-push_same [] i t n = time_at-here i t []
time_at-push_same (e ∷ es) i t n =
    elim (cases_eq e.0 i) [
      | inl y ↦ absurd (is_none (rw (eq-eqb e.0 i y) at n))
      | inr y ↦ rw (ne_eqb e.0 i y) (time_at-push_same es i t (rw (ne_eqb e.0 i y) at n))
    ]
  where
    is_none : Some e.1 ≡ None → ⊥
    is_none p = cc

pub time_at-push_other : (es : List (ℕ × ℕ)) (i t j : ℕ) → i ≢ j → time_at (es ++ (i, t) ∷ []) j ≡ time_at es j
time_at-push_other [] i t j h = time_at-past i t j [] h
time_at-push_other (e ∷ es) i t j h =
    elim (cases_eq e.0 j) [
      | inl y ↦ rw (eq-eqb e.0 j y) refl
      | inr y ↦ rw (ne_eqb e.0 j y) (time_at-push_other es i t j h)
    ]

pub time_at-others_same : (es : List (ℕ × ℕ)) (i : ℕ) → time_at (others es i) i ≡ None
time_at-others_same [] i = refl
time_at-others_same (e ∷ es) i =
    elim (cases_eq e.0 i) [
      | inl y ↦ rw (eq-eqb e.0 i y) (time_at-others_same es i)
      | inr y ↦ rw (ne_eqb e.0 i y) (rw (ne_eqb e.0 i y) (time_at-others_same es i))
    ]

pub time_at-others_other : (es : List (ℕ × ℕ)) (i j : ℕ) → i ≢ j → time_at (others es i) j ≡ time_at es j
time_at-others_other [] i j h = refl
time_at-others_other (e ∷ es) i j h =
    elim (cases_eq e.0 i) [
      | inl y ↦ rw (eq-eqb e.0 i y) (rw (ne_eqb e.0 j (λ (z : e.0 ≡ j). h (sym y ∙ z))) (time_at-others_other es i j h))
      | inr y ↦ rw (ne_eqb e.0 i y) (ap (λ (o : Option ℕ). if e.0 == j then Some e.1 else o) (time_at-others_other es i j h))
    ]

-- stamps of other indices stay
pub stamps_of-set : (times : List (Option ℕ)) (i : ℕ) (t : Option ℕ) (order : List ℕ) → IsAbsent i order
    → stamps_of (set times i t) order ≡ stamps_of times order
stamps_of-set times i t [] a = refl
stamps_of-set times i t (x ∷ xs) a = rw (get_or-set_other times i x t None (λ (e : x ≡ i). a.0 (sym e)))
    (ap (λ (es : List (ℕ × ℕ)). (x, unwrap_or (get_or times x None) 0) ∷ es) (stamps_of-set times i t xs a.1))

pub stamps_of-append : (times : List (Option ℕ)) (xs ys : List ℕ) → stamps_of times (xs ++ ys) ≡ stamps_of times xs ++ stamps_of times ys
stamps_of-append times [] ys = refl
stamps_of-append times (x ∷ xs) ys = ap (λ (es : List (ℕ × ℕ)). (x, unwrap_or (get_or times x None) 0) ∷ es) (stamps_of-append times xs ys)

pub others-stamps_of : (times : List (Option ℕ)) (order : List ℕ) (i : ℕ) → others (stamps_of times order) i ≡ stamps_of times (without order i)
others-stamps_of times [] i = refl
others-stamps_of times (x ∷ xs) i =
    elim (cases_eq x i) [
      | inl y ↦ rw (eq-eqb x i y) (others-stamps_of times xs i)
      | inr y ↦ rw (ne_eqb x i y) (ap (λ (es : List (ℕ × ℕ)). (x, unwrap_or (get_or times x None) 0) ∷ es) (others-stamps_of times xs i))
    ]

pub indices-stamps_of : (times : List (Option ℕ)) (order : List ℕ) → indices (stamps_of times order) ≡ order
indices-stamps_of times [] = refl
indices-stamps_of times (x ∷ xs) = ap (λ (ys : List ℕ). x ∷ ys) (indices-stamps_of times xs)

pub length-stamps_of : (times : List (Option ℕ)) (order : List ℕ) → length (stamps_of times order) ≡ length order
length-stamps_of times [] = refl
length-stamps_of times (x ∷ xs) = ap suc (length-stamps_of times xs)

pub RisesWithin-lower : (low low1 : ℕ) (es : List (ℕ × ℕ)) (high : ℕ) → low1 ≤ low → RisesWithin low es high → RisesWithin low1 es high
RisesWithin-lower low low1 [] high h r = let r' : low ≤ high = r in omega arith
RisesWithin-lower low low1 (e ∷ es) high h r = let first : low ≤ e.1 = r.0 in (omega arith, r.1)

pub RisesWithin-ends : (low : ℕ) (es : List (ℕ × ℕ)) (high : ℕ) → RisesWithin low es high → low ≤ high
RisesWithin-ends low [] high r = r
RisesWithin-ends low (e ∷ es) high r =
    let first : low ≤ e.1 = r.0 in
    let rest : e.1 ≤ high = RisesWithin-ends e.1 es high r.1 in
    omega arith

pub RisesWithin-push : (low : ℕ) (es : List (ℕ × ℕ)) (high i now : ℕ) → RisesWithin low es high → high ≤ now → RisesWithin low (es ++ (i, now) ∷ []) now
RisesWithin-push low [] high i now r h = let r' : low ≤ high = r in (omega arith, omega arith)
RisesWithin-push low (e ∷ es) high i now r h = (r.0, RisesWithin-push e.1 es high i now r.1 h)

pub RisesWithin-others : (low : ℕ) (es : List (ℕ × ℕ)) (high i : ℕ) → RisesWithin low es high → RisesWithin low (others es i) high
RisesWithin-others low [] high i r = r
RisesWithin-others low (e ∷ es) high i r =
    elim (cases_eq e.0 i) [
      | inl y ↦ rw (eq-eqb e.0 i y) (RisesWithin-lower e.1 low (others es i) high r.0 (RisesWithin-others e.1 es high i r.1))
      | inr y ↦ rw (ne_eqb e.0 i y) (r.0, RisesWithin-others e.1 es high i r.1)
    ]

-- where times don't fall below the bound, none is below it
pub oldest_below-none : (before low : ℕ) (es : List (ℕ × ℕ)) (high : ℕ) → before ≤ low → RisesWithin low es high → oldest_below before es ≡ None
oldest_below-none before low [] high h r = refl
oldest_below-none before low (e ∷ es) high h r =
    let first : low ≤ e.1 = r.0 in
    rw (le-ltb e.1 before (omega arith)) (oldest_below-none before e.1 es high (omega arith) r.1)

pub oldest_below-first : (before : ℕ) (i t : ℕ) (es : List (ℕ × ℕ)) → t < before → oldest_below before ((i, t) ∷ es) ≡ Some i
oldest_below-first before i t es h = rw (lt-ltb t before h) refl
