-- Parts that are told one behind the other.
use Rattle.std.proofs.Common.{◌≡◌, ℕ, suc, ◌+◌, ◌-◌, ◌<◌, List, [], ◌∷◌, ◌++◌, refl, sym, ap, ◌∙◌, arith}
use Rattle.vg_core.specs.Syntax.{Syntax}
use Rattle.vg_cscope.specs.Scopes.{Sight, sight, seen_at, kind_at, told, told_below}
use Rattle.vg_cscope.specs.declared.standing.Standing.{Standing}

pub told_append : (n : ℕ) (xs ys : Sight) (s : List Standing) → told n (xs ++ ys) s ≡ told n ys (told n xs s)
told_append n [] ys s = refl
told_append n (x ∷ xs) ys s = told_append n xs ys _

the_next : (count below : ℕ) → below < count → count - below ≡ suc (count - 1 - below)
the_next count below h = omega arith

the_rest : (count below : ℕ) → count - (below + 1) ≡ count - 1 - below
the_rest count below = omega arith

-- one node further down
pub told_next :
    (tree : Syntax) (count below : ℕ) (s t r : List Standing) → below < count →
    t ≡ told (count - 1 - below) (sight tree (count - 1 - below) (seen_at s (count - 1 - below)) (kind_at tree (count - 1 - below))) s →
    told_below tree (count - below) s ≡ r → told_below tree (count - (below + 1)) t ≡ r
told_next tree count below s t r h e i =
    ap (told_below tree (count - (below + 1))) e
    ∙ ap (λ m. told_below tree m (told (count - 1 - below) (sight tree (count - 1 - below) (seen_at s (count - 1 - below))
    (kind_at tree (count - 1 - below))) s)) (the_rest count below)
    ∙ sym (ap (λ k. told_below tree k s) (the_next count below h))
    ∙ i
