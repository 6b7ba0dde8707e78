-- Literals of clauses.
use Rattle.std.proofs.Common.{◌≡◌, ℕ, List, [], ◌∷◌, true, subst, sym, inl, inr}
use Rattle.std.specs.Prelude.{ℤ, All}
use Rattle.std.specs.Ordering.{int_eq}
use Rattle.std.proofs.lemmas.Bool.{or_cases, false≢true}
use Rattle.std.proofs.lemmas.List.Elements.{All-head, All-tail}
use Rattle.vg_cnf.specs.Clauses.{holds, IsOver}
use Rattle.vg_cnf.proofs.Steps.{same_literal}

-- each literal of a clause is over its variables
pub held_over : (n : ℕ) (c : List ℤ) (k : ℤ) → All (IsOver n) c → holds c k ≡ true → IsOver n k
held_over n [] k all held = absurd (false≢true held)
held_over n (x ∷ c) k all held =
    elim (or_cases (int_eq k x) (holds c k) held) [
      | inl here ↦ subst (IsOver n) (sym (same_literal k x here)) (All-head (IsOver n) x c all)
      | inr later ↦ held_over n c k (All-tail (IsOver n) x c all) later
    ]
