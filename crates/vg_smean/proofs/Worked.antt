-- The worked steps are as the definitions have them.
use Rattle.std.proofs.Common.{refl, ℕ, [], ◌∷◌, Option, Some, None}
use Rattle.std.specs.Cmp.Lexicographic.{slice_cmp}
use Rattle.std.specs.Ordering.{nat_cmp}
use Rattle.std.specs.FinMap.{empty, get-empty, get-insert}
use Rattle.std.proofs.lemmas.Cmp.{nat_cmp_total, nat_list_cmp_total}
use Rattle.vg_smean.specs.Values.{values_before}
use Rattle.vg_smean.specs.Step.{statements_before}
use Rattle.vg_smean.specs.Worked.{WorkedSteps}

pub worked_steps : WorkedSteps
unfolding values_before statements_before
worked_steps = record {
  swap = refl;
  swapped = refl;
  no_less = refl;
  shifted_out = refl;
  no_port = refl;
  left = refl;
  written = refl;
  read_past = refl;
  added = rw (get-empty (slice_cmp nat_cmp) (0 ∷ []), get-empty nat_cmp 1) refl;
  no_choice = rw (get-empty (slice_cmp nat_cmp) (0 ∷ [])) refl;
  beyond = rw (get-empty (slice_cmp nat_cmp) (0 ∷ [])) refl;
  in_use = rw (get-empty (slice_cmp nat_cmp) (0 ∷ []), get-insert {X = Option ℕ} nat_cmp_total empty 1 (Some 0) 1) refl;
  present = rw (get-insert {X = Option ℕ} nat_list_cmp_total empty (0 ∷ []) (Some 1) (0 ∷ [])) refl;
  used_up = rw (get-empty (slice_cmp nat_cmp) (0 ∷ [])) refl;
  key_asked = rw (get-empty (slice_cmp nat_cmp) (0 ∷ [])) refl;
  index_asked = rw (get-insert {X = Option ℕ} nat_list_cmp_total empty (0 ∷ []) None (0 ∷ []), get-empty nat_cmp 1) refl;
  untold_missing = rw (get-insert {X = Option ℕ} nat_list_cmp_total empty (0 ∷ []) None (0 ∷ [])) refl;
  untold_beyond = rw (get-insert {X = Option ℕ} nat_list_cmp_total empty (0 ∷ []) None (0 ∷ [])) refl;
  branched = refl;
  name_gone = refl;
  own_names = refl;
  both_asked = rw (get-empty nat_cmp 1) refl;
  not_touched = rw (get-empty nat_cmp 1) refl;
  found = rw (get-insert {X = Option ℕ} nat_list_cmp_total empty (0 ∷ []) (Some 1) (0 ∷ [])) refl;
}
