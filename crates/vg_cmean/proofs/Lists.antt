-- A list of parts has no more of them than a number of 32 bits counts.
use Rattle.std.proofs.Common.{ℕ, zero, suc, ◌<◌, ◌≤◌, ◌^◌, List, [], ◌∷◌, length, take, drop, arith}
use Rattle.vg_core.specs.Syntax.{listed}
use Rattle.vg_core.specs.declared.tree.Parts.{Parts}

length_take : (k : ℕ) (xs : List ℕ) → length (take k xs) ≤ k
length_take zero xs = omega arith
length_take (suc k) [] = omega arith
length_take (suc k) (x ∷ xs) = let h = length_take k xs in omega arith

pub few_listed : (items : List ℕ) (parts : Parts) → parts.count < 2 ^ 32 → length (listed items parts) < 2 ^ 32
few_listed items parts h = let e = length_take parts.count (drop parts.from items) in omega arith
