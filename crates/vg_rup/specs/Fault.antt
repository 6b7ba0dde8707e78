-- Why a refutation was not accepted.
use Rattle.std.specs.Prelude.{◌≡◌, ℤ, false, List, Some, IsNone}
use Rattle.vg_cnf.specs.Refutations.{first_unfollowed, ends_empty}
use Rattle.vg_rup.specs.declared.checker.RupFault.{RupFault}
use Rattle.vg_rup.specs.declared.checker.RupFault.TheVariants.{NotUnit, NoEmpty, Memory}

-- what each fault says of the clauses and the steps; of a good refutation only `Memory` can be said
abbrev pub IsFault : List (List ℤ) → List (List ℤ) → RupFault → Type 0
IsFault clauses steps (NotUnit step) = first_unfollowed clauses steps ≡ Some step
IsFault clauses steps NoEmpty = IsNone (first_unfollowed clauses steps) × (ends_empty steps ≡ false)
IsFault clauses steps Memory = Unit {0}
