-- A part that stands before its node means what it means; any other means nothing.
use Rattle.std.proofs.Common.{◌≡◌, ◌≢◌, ℕ, zero, suc, ◌<◌, ◌≤◌, nat_eq, true, false, refl, sym, ap, arith, ◌∙◌, if◌then◌else◌, ◌⊎◌, inl, inr}
use Rattle.std.proofs.lemmas.Bool.Decides.{eqb_tells}
use Rattle.vg_core.specs.Units.{Typed}
use Rattle.vg_cmean.specs.Meaning.{nothing, of_node, meaning_below, meaning}

pub meaning_is : (u : Typed) (n : ℕ) → meaning u n ≡ of_node u (meaning_below u n) n
unfolding meaning
meaning_is u n = refl

below_zero : (u : Typed) (n : ℕ) → meaning_below u 0 n ≡ nothing
unfolding meaning_below
below_zero u n = refl

below_suc : (u : Typed) (k n : ℕ) → meaning_below u (suc k) n ≡ (if nat_eq n k then of_node u (meaning_below u k) k else meaning_below u k n)
unfolding meaning_below
below_suc u k n = refl

-- the node itself, and the others
below_here : (u : Typed) (k n : ℕ) → nat_eq n k ≡ true → meaning_below u (suc k) n ≡ of_node u (meaning_below u k) k
below_here u k n e = below_suc u k n ∙ ap (λ b. if b then of_node u (meaning_below u k) k else meaning_below u k n) e

below_other : (u : Typed) (k n : ℕ) → nat_eq n k ≡ false → meaning_below u (suc k) n ≡ meaning_below u k n
below_other u k n e = below_suc u k n ∙ ap (λ b. if b then of_node u (meaning_below u k) k else meaning_below u k n) e

none_step : (u : Typed) (k n : ℕ) → suc k ≤ n → ((nat_eq n k ≡ true) × (n ≡ k)) ⊎ ((nat_eq n k ≡ false) × (n ≢ k)) → meaning_below u k n ≡ nothing
    → meaning_below u (suc k) n ≡ nothing
none_step u k n h (inl same) i = let e = same.1 in absurd (omega arith)
none_step u k n h (inr other) i = below_other u k n other.0 ∙ i

pub below_none : (u : Typed) (k n : ℕ) → k ≤ n → meaning_below u k n ≡ nothing
below_none u zero n h = below_zero u n
below_none u (suc k) n h = none_step u k n h (eqb_tells n k) (below_none u k n (omega arith))

is_step : (u : Typed) (k n : ℕ) → n < suc k → ((nat_eq n k ≡ true) × (n ≡ k)) ⊎ ((nat_eq n k ≡ false) × (n ≢ k))
    → (n < k → meaning_below u k n ≡ meaning u n) → meaning_below u (suc k) n ≡ meaning u n
is_step u k n h (inl same) i = below_here u k n same.0 ∙ sym (meaning_is u k) ∙ ap (meaning u) (sym same.1)
is_step u k n h (inr other) i = let ne = other.1 in below_other u k n other.0 ∙ i (omega arith)

pub below_is : (u : Typed) (k n : ℕ) → n < k → meaning_below u k n ≡ meaning u n
below_is u zero n h = absurd (omega arith)
below_is u (suc k) n h = is_step u k n h (eqb_tells n k) (λ less. below_is u k n less)
