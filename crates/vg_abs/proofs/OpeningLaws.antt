-- A link at the start is lawful.
use Rattle.std.proofs.Common.{◌≡◌, ℕ, zero, suc, ◌<◌, List, Option, Some, None, refl, sym, ◌∙◌, ap, subst, inl, inr, arith, cond}
use Rattle.std.specs.Prelude.{◌==◌, replicate, IsSome}
use Rattle.std.specs.Ordering.{nat_cmp}
use Rattle.std.specs.Cmp.{nat_cmp_total}
use Rattle.std.specs.Cmp.Lexicographic.{slice_cmp}
use Rattle.std.specs.FinMap.{get, empty, len-empty, get-insert, get-empty}
use Rattle.std.proofs.lemmas.Bool.{cases_eq, eq-eqb, ne_eqb}
use Rattle.vg_abs.specs.Lawful.{IsTied}
use Rattle.vg_abs.specs.Opening.{zero_cells, opening_link, LinkOpensLawful}
use Rattle.vg_abs.proofs.Starting.{same_test}

-- nothing is nothing
pub no_some : {X : Type 0} (found : Option X) (x : X) → found ≡ None → found ≡ Some x → ⊥
no_some found x none some = absurd (cc)

-- what stands at a number after one cell more
pub one_more : (count bytes index : ℕ) → get (zero_cells (suc count) bytes) index ≡ cond (count == index) (Some (replicate bytes 0))
    (get (zero_cells count bytes) index)
one_more count bytes index =
    get-insert nat_cmp_total (zero_cells count bytes) count (replicate bytes 0) index
    ∙ ap (λ b. cond b (Some (replicate bytes 0)) (get (zero_cells count bytes) index)) (same_test index count)

-- each cell is there
pub zero_there : (count bytes index : ℕ) → index < count → IsSome (get (zero_cells count bytes) index)
zero_there zero bytes index less = absurd (omega arith)
zero_there (suc count) bytes index less = elim (cases_eq count index) [
  | inl same ↦ subst (λ (found : Option (List ℕ)). IsSome found) (sym (one_more count bytes index
      ∙ ap (λ b. cond b (Some (replicate bytes 0)) (get (zero_cells count bytes) index)) (eq-eqb count index same))) refl
  | inr ne ↦ subst (λ (found : Option (List ℕ)). IsSome found) (sym (one_more count bytes index
      ∙ ap (λ b. cond b (Some (replicate bytes 0)) (get (zero_cells count bytes) index)) (ne_eqb count index ne)))
      (zero_there count bytes index (omega arith))
]

-- and no other
pub zero_none : (count bytes index : ℕ) (cell : List ℕ) → get (zero_cells count bytes) index ≡ Some cell → index < count
zero_none zero bytes index cell found = absurd (no_some (get (empty {X = List ℕ} {R = nat_cmp}) index) cell (get-empty nat_cmp index) found)
zero_none (suc count) bytes index cell found = elim (cases_eq count index) [
  | inl same ↦ omega arith
  | inr ne ↦ (let below : index < count = zero_none count bytes index cell
      (sym (one_more count bytes index ∙ ap (λ b. cond b (Some (replicate bytes 0)) (get (zero_cells count bytes) index)) (ne_eqb count index ne))
      ∙ found) in omega arith)
]

tied : (capacity key_length : ℕ) → IsTied 0 (opening_link capacity key_length)
tied capacity key_length = record {
  mapped = λ key index found. absurd (no_some (get (empty {X = Option ℕ} {R = slice_cmp nat_cmp}) key) (Some index) (get-empty (slice_cmp nat_cmp) key) found);
  allocated = λ index time found. absurd (no_some (get (empty {X = Option ℕ} {R = nat_cmp}) index) (Some time) (get-empty nat_cmp index) found);
  alike = refl;
  within = omega arith;
  past = omega arith;
}

pub opens_lawful : LinkOpensLawful
opens_lawful capacity key_length = record {
  tied = tied capacity key_length;
  no_absent = λ key answer found. absurd (no_some (get (empty {X = Option ℕ} {R = slice_cmp nat_cmp}) key) answer (get-empty (slice_cmp nat_cmp) key) found);
  no_free = λ index answer found. absurd (no_some (get (empty {X = Option ℕ} {R = nat_cmp}) index) answer (get-empty nat_cmp index) found);
  all_keys = sym (len-empty (slice_cmp nat_cmp) (Option ℕ));
  all_indices = sym (len-empty nat_cmp (Option ℕ));
  all_cells = zero_there capacity key_length;
  no_more_cells = zero_none capacity key_length;
  no_bounds = len-empty nat_cmp ℕ;
}
