-- The depths of nodes, one further.
use Rattle.std.proofs.Common.{◌≡◌, ℕ, suc, ◌+◌, max, List, [], ◌∷◌, ◌++◌, refl, sym, subst, arith, add-one}
use Rattle.vg_core.specs.Units.{Typed}
use Rattle.vg_cmean.specs.Nesting.{deepest, depths_below, depth_of}

pub deepest_append : (depths : List ℕ) (more : ℕ) (xs ys : List ℕ) → deepest depths more (xs ++ ys) ≡ max (deepest depths more xs) (deepest depths more ys)
deepest_append depths more [] ys = omega arith
deepest_append depths more (x ∷ xs) ys = let e = deepest_append depths more xs ys in omega arith

depths_suc : (u : Typed) (n : ℕ) → depths_below u (suc n) ≡ depths_below u n ++ depth_of u (depths_below u n) n ∷ []
unfolding depths_below
depths_suc u n = refl

pub depths_next : (u : Typed) (n : ℕ) → depths_below u (n + 1) ≡ depths_below u n ++ depth_of u (depths_below u n) n ∷ []
depths_next u n = subst (λ k. depths_below u k ≡ depths_below u n ++ depth_of u (depths_below u n) n ∷ []) (sym (add-one n)) (depths_suc u n)

pub depths_none : (u : Typed) → depths_below u 0 ≡ []
unfolding depths_below
depths_none u = refl
