-- The worked frames are as the definitions have them.
use Rattle.std.proofs.Common.{refl}
use Rattle.std.specs.Prelude.{ℕ, List, [], ◌∷◌}
use Rattle.std.specs.Cmp.Lexicographic.{slice_cmp}
use Rattle.std.specs.Ordering.{nat_cmp}
use Rattle.std.specs.FinMap.{empty, get-empty, get-insert}
use Rattle.std.proofs.lemmas.Cmp.{nat_cmp_total}
use Rattle.vg_crows.specs.Worked.{LoansAndChanges, RefusalsComeInOrder}

pub loans : LoansAndChanges
loans = (
  rw (get-empty nat_cmp 0) refl,
  rw (get-insert {X = List ℕ} nat_cmp_total empty 0 (0 ∷ []) 0) refl,
  rw (get-insert {X = List ℕ} nat_cmp_total empty 0 (0 ∷ []) 0) refl,
  rw (get-insert {X = List ℕ} nat_cmp_total empty 0 (0 ∷ []) 0) refl,
  rw (get-insert {X = List ℕ} nat_cmp_total empty 0 (0 ∷ []) 0) refl,
)

pub refusals : RefusalsComeInOrder
refusals = (
  refl,
  refl,
  refl,
  rw (get-empty (slice_cmp nat_cmp) (7 ∷ [])) refl,
  refl,
  refl,
  refl,
  refl,
  rw (get-empty nat_cmp 0) refl,
  refl,
  rw (get-empty (slice_cmp nat_cmp) (7 ∷ [])) refl,
)
