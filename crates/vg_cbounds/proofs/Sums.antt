-- Counts of steps that aren't cut.
use Rattle.std.proofs.Common.{◌≡◌, ℕ, ◌+◌, ◌≤◌, List, [], ◌∷◌, arith}
use Rattle.std.proofs.lemmas.Bool.Decides.{nat_tests}
use Rattle.vg_ctyper.specs.Names.{Known}
use Rattle.vg_ctyper.specs.Notes.{capped, steps_at, sum_from, sum_of_steps}

pub capped_is : (n : ℕ) → capped n ≤ 1000000 → capped n ≡ n
capped_is n h = grind (arith, nat_tests)

-- the sum of the parts
abbrev pub total : Known → List ℕ → ℕ
total k [] = 0
total k (p ∷ ps) = steps_at k p + total k ps

-- a sum that isn't cut is no less than what it began with
from_start : (k : Known) (sum : ℕ) (parts : List ℕ) → sum_from k sum parts ≤ 1000000 → sum + total k parts ≡ sum_from k sum parts
from_start k sum [] h = omega arith
from_start k sum (p ∷ ps) h =
    let rest = from_start k (capped (sum + steps_at k p)) ps h in
    let small : capped (sum + steps_at k p) ≤ 1000000 = omega arith in
    let is = capped_is (sum + steps_at k p) small in omega arith

pub sum_is : (k : Known) (parts : List ℕ) → sum_of_steps k parts ≤ 1000000 → total k parts ≡ sum_of_steps k parts
sum_is k parts h = let e = from_start k 0 parts h in omega arith
