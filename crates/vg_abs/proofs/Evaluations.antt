-- The value of an expression goes by the values of those before it.
use Rattle.std.proofs.Common.{◌≡◌, ◌≢◌, ℕ, zero, suc, ◌<◌, ◌≤◌, List, [], ◌∷◌, Option, Some, None, true, false, Bool, ◌&&◌, refl, subst, sym, ◌∙◌, ap}
use Rattle.std.proofs.Common.{inl, inr, arith}
use Rattle.std.specs.Prelude.{slice_get, unwrap_or}
use Rattle.std.specs.List.{list_all}
use Rattle.std.proofs.lemmas.Bool.{eq-eqb, ne_eqb, cond-true, cond-false, cases_eq}
use Rattle.vg_stree.specs.Syntax.{Syntax}
use Rattle.vg_stree.specs.declared.code.SExpr.{SExpr}
use Rattle.vg_stree.specs.Depths.{has_few_arguments}
use Rattle.vg_abs.specs.Expressions.{Scope, value_found, value_by, values_before, value_of}

-- the value of an expression is by those before it
pub value_is : (code : Syntax) (number : ℕ) (scope : Scope) → value_of code number scope ≡ value_found code (values_before code number)
    (slice_get code.expressions number) scope
unfolding value_of values_before
value_is code number scope = cond-true _ _ _ (eq-eqb number number refl)

-- one that stands before a number has its value there
before_step : (code : Syntax) (count number : ℕ) (scope : Scope) → number ≢ count → values_before code (suc count) number scope ≡ values_before code
    count number scope
unfolding values_before
before_step code count number scope ne = cond-false _ _ _ (ne_eqb number count ne)

before_here : (code : Syntax) (number : ℕ) (scope : Scope) → values_before code (suc number) number scope ≡ value_of code number scope
unfolding value_of
before_here code number scope = refl

pub before_is : (code : Syntax) (count number : ℕ) (scope : Scope) → number < count → values_before code count number scope ≡ value_of code number scope
before_is code zero number scope less = absurd (omega arith)
before_is code (suc count) number scope less = elim (cases_eq number count) [
  | inl same ↦ ap (λ n. values_before code (suc n) number scope) (sym same) ∙ before_here code number scope
  | inr ne ↦ before_step code count number scope ne ∙ before_is code count number scope (omega arith)
]

-- and any other is 0
pub before_none : (code : Syntax) (count number : ℕ) (scope : Scope) → count ≤ number → values_before code count number scope ≡ 0
unfolding values_before
before_none code zero number scope more = refl
before_none code (suc count) number scope more = before_step code count number scope (λ same. omega arith) ∙ before_none code count number scope (omega arith)

-- what all of a list meet is met by one of them
and_first : (a b : Bool) → (a && b) ≡ true → a ≡ true
and_first true b e = refl
and_first false b e = e

and_second : (a b : Bool) → (a && b) ≡ true → b ≡ true
and_second true b e = e
and_second false b e = absurd (cc)

pub all_at : (es : List SExpr) (number : ℕ) (e : SExpr) → list_all has_few_arguments es ≡ true → slice_get es number ≡ Some e → has_few_arguments e ≡ true
all_at [] number e all is = absurd (cc)
all_at (x ∷ es) zero e all is =
    let same : x ≡ e = ap (λ (found : Option SExpr). unwrap_or found x) is in
    subst (λ (one : SExpr). has_few_arguments one ≡ true) same (and_first (has_few_arguments x) (list_all has_few_arguments es) all)
all_at (x ∷ es) (suc number) e all is = all_at es number e (and_second (has_few_arguments x) (list_all has_few_arguments es) all) is

pub value_some : (code : Syntax) (number : ℕ) (scope : Scope) (e : SExpr) (value : ℕ) → slice_get code.expressions number ≡ Some e
    → value ≡ value_by code (values_before code number) e scope → value ≡ value_of code number scope
value_some code number scope e value found is = is ∙ sym (value_is code number scope ∙ ap (λ o. value_found code (values_before code number) o scope) found)

pub value_none : (code : Syntax) (number : ℕ) (scope : Scope) → slice_get code.expressions number ≡ None → 0 ≡ value_of code number scope
value_none code number scope none = sym (value_is code number scope ∙ ap (λ o. value_found code (values_before code number) o scope) none)
