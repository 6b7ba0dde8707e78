-- The declarations of a text, one further.
use Rattle.std.proofs.Common.{◌≡◌, ℕ, suc, ◌+◌, ◌∷◌, [], ◌++◌, refl, sym, subst, add-one}
use Rattle.vg_core.specs.Units.{Typed}
use Rattle.vg_cmean.specs.Typings.{kind_at}
use Rattle.vg_cmean.specs.Runs.{sizes_below, bytes_declared}

pub sizes_suc : (u : Typed) (n : ℕ) → sizes_below u (suc n) ≡ sizes_below u n ++ bytes_declared u n (kind_at u n) ∷ []
unfolding sizes_below
sizes_suc u n = refl

pub sizes_next : (u : Typed) (n : ℕ) → sizes_below u (n + 1) ≡ sizes_below u n ++ bytes_declared u n (kind_at u n) ∷ []
sizes_next u n = subst (λ k. sizes_below u k ≡ sizes_below u n ++ bytes_declared u n (kind_at u n) ∷ []) (sym (add-one n)) (sizes_suc u n)

pub sizes_none : (u : Typed) → sizes_below u 0 ≡ []
unfolding sizes_below
sizes_none u = refl
