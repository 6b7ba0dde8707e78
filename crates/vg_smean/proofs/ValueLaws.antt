-- The value of an expression goes by the values of those before it.
use Rattle.std.proofs.Common.{◌≡◌, ◌≢◌, ℕ, zero, suc, ◌<◌, ◌≤◌, List, [], ◌∷◌, Option, Some, None, true, false, Bool, ◌&&◌, refl, subst, sym, ◌∙◌, ap}
use Rattle.std.proofs.Common.{inl, inr, arith}
use Rattle.std.specs.Prelude.{slice_get, unwrap_or}
use Rattle.std.specs.List.{list_all}
use Rattle.std.proofs.lemmas.Bool.{eq-eqb, ne_eqb, cond-true, cond-false, cases_eq}
use Rattle.vg_stree.specs.Specification.{Specification}
use Rattle.vg_stree.specs.Depths.{has_few_arguments}
use Rattle.vg_stree.specs.declared.code.SExpr.{SExpr}
use Rattle.vg_smean.specs.Values.{Scene, value_found, value_by, values_before, value_of}

-- the value of an expression is by those before it
pub value_is : (spec : Specification) (number : ℕ) (scene : Scene) → value_of spec scene number ≡ value_found spec (values_before spec number)
    (slice_get spec.code.expressions number) scene
unfolding values_before
value_is spec number scene = cond-true _ _ _ (eq-eqb number number refl)

-- one that stands before a number has its value there
before_step : (spec : Specification) (count number : ℕ) (scene : Scene) → number ≢ count → values_before spec (suc count) number scene ≡ values_before
    spec count number scene
unfolding values_before
before_step spec count number scene ne = cond-false _ _ _ (ne_eqb number count ne)

pub before_is : (spec : Specification) (count number : ℕ) (scene : Scene) → number < count → values_before spec count number scene ≡ value_of spec scene number
before_is spec zero number scene less = absurd (omega arith)
before_is spec (suc count) number scene less = elim (cases_eq number count) [
  | inl same ↦ ap (λ n. values_before spec (suc n) number scene) (sym same)
  | inr ne ↦ before_step spec count number scene ne ∙ before_is spec count number scene (omega arith)
]

-- and any other is 0
pub before_none : (spec : Specification) (count number : ℕ) (scene : Scene) → count ≤ number → values_before spec count number scene ≡ Some 0
unfolding values_before
before_none spec zero number scene more = refl
before_none spec (suc count) number scene more = before_step spec count number scene (λ same. omega arith) ∙ before_none spec count number scene (omega arith)

pub value_some : (spec : Specification) (number : ℕ) (scene : Scene) (e : SExpr) (value : Option ℕ) → slice_get spec.code.expressions number ≡ Some e
    → value ≡ value_by spec (values_before spec number) e scene → value ≡ value_of spec scene number
value_some spec number scene e value found is = is ∙ sym (value_is spec number scene ∙ ap (λ o. value_found spec (values_before spec number) o scene) found)

pub value_none : (spec : Specification) (number : ℕ) (scene : Scene) → slice_get spec.code.expressions number ≡ None → Some 0 ≡ value_of spec scene number
value_none spec number scene none = sym (value_is spec number scene ∙ ap (λ o. value_found spec (values_before spec number) o scene) none)

-- what all of a list meet is met by one of them
and_first : (a b : Bool) → (a && b) ≡ true → a ≡ true
and_first true b e = refl
and_first false b e = e

and_second : (a b : Bool) → (a && b) ≡ true → b ≡ true
and_second true b e = e
and_second false b e = absurd (cc)

pub all_at : (es : List SExpr) (number : ℕ) (e : SExpr) → list_all has_few_arguments es ≡ true → slice_get es number ≡ Some e → has_few_arguments e ≡ true
all_at [] number e all is = absurd (cc)
all_at (x ∷ es) zero e all is =
    let same : x ≡ e = ap (λ (found : Option SExpr). unwrap_or found x) is in
    subst (λ (one : SExpr). has_few_arguments one ≡ true) same (and_first (has_few_arguments x) (list_all has_few_arguments es) all)
all_at (x ∷ es) (suc number) e all is = all_at es number e (and_second (has_few_arguments x) (list_all has_few_arguments es) all) is
