-- What is known of small functions from their meaning alone.
use Rattle.std.proofs.Common.{◌≡◌, ◌∙◌, ◌<◌, ◌≤◌, ◌+◌, ◌*◌, ℕ, List, [], ◌∷◌, length, Bool, true, false, ◌||◌, eqb, inl, inr, not, refl, sym, ap}
use Rattle.std.proofs.Common.{arith, All, IsTrue}
use Rattle.std.specs.List.{list_any}
use Rattle.std.proofs.lemmas.Bool.{or_parts, cases_Bool, eqb-true, true≢false}
use Rattle.std.proofs.lemmas.List.Elements.{All-head, All-tail}
use Rattle.vg_small.specs.declared.small.Test.{Test}
use Rattle.vg_small.specs.Spelling.{IsTest}
use Rattle.vg_small.specs.Meaning.{value_at, steps_at, sides_at}

-- each value is below a bound where those of the tests are
pub value_at-below : (bound : ℕ) (ts : List Test) (last port : ℕ) → All (IsTest bound) ts → last < bound → value_at ts last port < bound
value_at-below bound [] last port all below = below
value_at-below bound (t ∷ ts) last port all below = elim (cases_Bool (eqb port t.port)) [
  | inl holds ↦ rw holds ((All-head (IsTest bound) t ts all).value)
  | inr fails ↦ rw fails (value_at-below bound ts last port (All-tail (IsTest bound) t ts all) below)
]

-- two steps for each test at most, and the return
pub steps_at-le : (ts : List Test) (port : ℕ) → steps_at ts port ≤ 2 * length ts + 1
steps_at-le [] port = omega arith
steps_at-le (t ∷ ts) port = elim (cases_Bool (eqb port t.port)) [
  | inl holds ↦ rw holds (omega arith)
  | inr fails ↦ rw fails (omega (arith, steps_at-le ts port))
]

-- ports that no test names take the same sides
pub sides_at-same : (ts : List Test) (p q : ℕ) → list_any (λ t. eqb p t.port || eqb q t.port) ts ≡ false → sides_at ts p ≡ sides_at ts q
sides_at-same [] p q e = refl
sides_at-same (t ∷ ts) p q e =
    let parts = or_parts (eqb p t.port || eqb q t.port) _ e in
    let ports = or_parts (eqb p t.port) (eqb q t.port) parts.0 in
    rw (ports.0, ports.1) (ap (λ (sides : List Bool). false ∷ sides) (sides_at-same ts p q parts.1))

-- and where a test names one of two ports that differ, they part at the first such test
pub sides_at-differ : (ts : List Test) (p q : ℕ) → (p ≡ q → ⊥) → list_any (λ t. eqb p t.port || eqb q t.port) ts ≡ true → sides_at ts p ≡ sides_at ts q → ⊥
sides_at-differ [] p q ne e same = true≢false (sym e)
sides_at-differ (t ∷ ts) p q ne e same = elim (cases_Bool (eqb p t.port)) [
  | inl p_yes ↦ elim (cases_Bool (eqb q t.port)) [
    | inl q_yes ↦ ne (eqb-true p t.port p_yes ∙ sym (eqb-true q t.port q_yes))
    | inr q_no ↦ let parted = rw (p_yes, q_no) at same in cc
  ]
  | inr p_no ↦ elim (cases_Bool (eqb q t.port)) [
    | inl q_yes ↦ let parted = rw (p_no, q_yes) at same in cc
    | inr q_no ↦
        let more = rw (p_no, q_no) at e in
        let tails = rw (p_no, q_no) at same in
        sides_at-differ ts p q ne more (cc)
  ]
]

-- the test of the code tells whether two ports that differ take the same sides
pub sides_at-told : (ts : List Test) (p q : ℕ) (named : Bool) → (p ≡ q → ⊥) → named ≡ list_any (λ t. eqb p t.port || eqb q t.port) ts
    → (IsTrue (not named) → sides_at ts p ≡ sides_at ts q) × (sides_at ts p ≡ sides_at ts q → IsTrue (not named))
sides_at-told ts p q false ne is = (λ _. sides_at-same ts p q (sym is), λ _. refl)
sides_at-told ts p q true ne is = (λ h. absurd (true≢false (sym h)), λ same. absurd (sides_at-differ ts p q ne (sym is) same))
