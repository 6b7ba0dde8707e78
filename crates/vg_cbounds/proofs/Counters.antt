-- A loop's counter comes to its bound in as many steps as its distance from it takes.
use Rattle.std.proofs.Common.{◌≡◌, ℕ, zero, suc, ◌+◌, ◌-◌, ◌*◌, ◌/◌, ◌%◌, ◌≤◌, ◌<◌, false, nat_lt, nat_eq, refl, sym, ap, subst, arith, ◌∙◌, ◌⊎◌, inl, inr}
use Rattle.std.proofs.Math.Nat.{mod-eq_of_lt, add-mod_right}
use Rattle.std.proofs.lemmas.Bool.{cases_lt}
use Rattle.std.proofs.lemmas.Bool.Decides.{nat_tests}
use Rattle.vg_core.specs.declared.types.Integer.{Integer}
use Rattle.vg_cint.specs.Operators.{less}
use Rattle.vg_cint.specs.declared.value.Value.{Value}
use Rattle.vg_cmean.specs.Meaning.{is_below, next_of}
use Rattle.vg_ctyper.specs.StatementRules.{distance, steps_to}
use Rattle.vg_cbounds.proofs.Statements.{EndsWithin}

-- ---- how many steps a distance takes

zero_or : (n : ℕ) → (n ≡ 0) ⊎ (0 < n)
zero_or zero = inl refl
zero_or (suc n) = inr (omega arith)

not_zero : (n : ℕ) → 0 < n → nat_eq n 0 ≡ false
not_zero n h = grind (arith, nat_tests)

quotient_covers : (n step : ℕ) → 0 < step → n < (n / step + 1) * step
quotient_covers n step h = omega arith

steps_of_some : (distance step : ℕ) → 0 < step → 0 < distance → steps_to distance step ≡ (distance - 1) / step + 1
steps_of_some distance step h k = rw (not_zero step h, not_zero distance k) refl

steps_cover_by : (distance step : ℕ) → 0 < step → (distance ≡ 0) ⊎ (0 < distance) → distance ≤ steps_to distance step * step
steps_cover_by distance step h (inl e) = omega arith
steps_cover_by distance step h (inr k) =
    let q = quotient_covers (distance - 1) step h in
    let e : steps_to distance step * step ≡ ((distance - 1) / step + 1) * step = ap (λ n. n * step) (steps_of_some distance step h k) in omega arith

pub steps_cover : (distance step : ℕ) → 0 < step → distance ≤ steps_to distance step * step
steps_cover distance step h = steps_cover_by distance step h (zero_or distance)

-- ---- up to a bound, from a word at or above 0

not_below : (v b : ℕ) → b ≤ v → nat_lt v b ≡ false
not_below v b h = grind (arith, nat_tests)

abbrev pub at : Integer → ℕ → Value
at t v = record { of = t; word = v }

-- what is known of a counter's type and a bound, up to a greatest value
pub record IsUpTo (t : Integer) (bound : Value) (b step most : ℕ) : Type 0 where
  pub below : (x : ℕ) → x ≤ most → is_below (at t x) bound ≡ nat_lt x b
  pub next : (x : ℕ) → x + step ≤ most → next_of (at t x) step ≡ at t (x + step)
  pub room : b + step ≤ most

ends_up_by : (t : Integer) (bound : Value) (b step most turns v : ℕ) → IsUpTo t bound b step most →
    (b ≤ v + step + turns * step → v + step ≤ most → EndsWithin turns (at t (v + step)) bound step) →
    v ≤ most → b ≤ v + suc turns * step → (v < b) ⊎ (b ≤ v) → EndsWithin (suc turns) (at t v) bound step
ends_up_by t bound b step most turns v k more small far (inr over) = inl (k.below v small ∙ not_below v b over)
ends_up_by t bound b step most turns v k more small far (inl under) =
    let room = k.room in
    let fits : v + step ≤ most = omega arith in
    let near : b ≤ v + step + turns * step = omega arith in
    inr (subst (λ (c : Value). EndsWithin turns c bound step) (sym (k.next v fits)) (more near fits))

pub ends_up : (t : Integer) (bound : Value) (b step most turns v : ℕ) → IsUpTo t bound b step most → v ≤ most → b ≤ v + turns * step →
    EndsWithin turns (at t v) bound step
ends_up t bound b step most zero v k small far = k.below v small ∙ not_below v b (omega arith)
ends_up t bound b step most (suc turns) v k small far =
    ends_up_by t bound b step most turns v k (λ near fits. ends_up t bound b step most turns (v + step) k fits near) small far (cases_lt v b)

-- ---- from a word below 0

ends_from_by : (t : Integer) (bound : Value) (b step most all turns x : ℕ) → IsUpTo t bound b step most → step < all →
    next_of (at t x) step ≡ at t ((x + step) % all) → x < all → b + (all - x) ≤ suc turns * step →
    (x + step < all → b + (all - (x + step)) ≤ turns * step → EndsWithin turns (at t (x + step)) bound step) →
    (x + step < all) ⊎ (all ≤ x + step) → EndsWithin (suc turns) (at t x) bound step
ends_from_by t bound b step most all turns x k less next short far more (inl under) =
    let near : b + (all - (x + step)) ≤ turns * step = omega arith in
    let e : (x + step) % all ≡ x + step = mod-eq_of_lt under in
    inr (subst (λ (c : Value). EndsWithin turns c bound step) (sym (next ∙ ap (at t) e)) (more under near))
ends_from_by t bound b step most all turns x k less next short far more (inr over) =
    let room = k.room in
    let v = x + step - all in
    let small : v < all = omega arith in
    let same : x + step ≡ v + all = omega arith in
    let e : (x + step) % all ≡ v = ap (λ n. n % all) same ∙ add-mod_right v all ∙ mod-eq_of_lt small in
    inr (subst (λ (c : Value). EndsWithin turns c bound step) (sym (next ∙ ap (at t) e))
    (ends_up t bound b step most turns v k (omega arith) (omega arith)))

pub ends_from : (t : Integer) (bound : Value) (b step most all turns x : ℕ) → IsUpTo t bound b step most → step < all →
    ((y : ℕ) → y < all → next_of (at t y) step ≡ at t ((y + step) % all)) → x < all → b + (all - x) ≤ turns * step →
    EndsWithin turns (at t x) bound step
ends_from t bound b step most all zero x k less next short far = absurd (omega arith)
ends_from t bound b step most all (suc turns) x k less next short far =
    ends_from_by t bound b step most all turns x k less (next x short) short far
    (λ under near. ends_from t bound b step most all turns (x + step) k less next under near) (cases_lt (x + step) all)
