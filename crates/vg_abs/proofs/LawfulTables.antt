-- Cells that are all there.
use Rattle.std.proofs.Common.{◌≡◌, ℕ, zero, suc, ◌<◌, List, map, Bool, true, false, ◌&&◌, refl, sym, ◌∙◌, ap, inl, inr, arith}
use Rattle.std.specs.Prelude.{is_some}
use Rattle.std.specs.List.{list_all}
use Rattle.std.specs.Ordering.{nat_cmp}
use Rattle.std.specs.Cmp.Lexicographic.{slice_cmp}
use Rattle.std.proofs.lemmas.List.Folds.{list_all-map}
use Rattle.std.specs.FinMap.{FinMap, get, entries}
use Rattle.std.proofs.lemmas.Bool.{cases_eq}
use Rattle.vg_abs.specs.Tables.{CellTable}
use Rattle.vg_abs.specs.LawfulTests.{all_there}

and_false : (a : Bool) → (a && false) ≡ false
and_false true = refl
and_false false = refl

pub missing : (cells : CellTable) (count index : ℕ) → index < count → is_some (get cells index) ≡ false → all_there cells count ≡ false
missing cells zero index less none = absurd (omega arith)
missing cells (suc count) index less none = elim (cases_eq index count) [
  | inl same ↦ ap (λ b. b && all_there cells count) (sym (ap (λ n. is_some (get cells n)) same) ∙ none)
  | inr ne ↦ ap (λ b. is_some (get cells count) && b) (missing cells count index (omega arith) none) ∙ and_false (is_some (get cells count))
]

-- what all entries of a table of keys pass, whose keys are seen as bytes
pub keyed_all : {K X : Type 0} (test : List ℕ × X → Bool) (see : K → List ℕ) (es : List (K × X)) (table : FinMap (slice_cmp nat_cmp) X)
    → map (λ entry. (see entry.0, entry.1)) es ≡ entries table →
    list_all (λ entry. test (see entry.0, entry.1)) es ≡ list_all test (entries table)
keyed_all test see es table is = sym (list_all-map test (λ entry. (see entry.0, entry.1)) es) ∙ ap (λ all. list_all test all) is
