-- What a statement does goes by what those before it do.
use Rattle.std.proofs.Common.{◌≡◌, ◌≢◌, ℕ, zero, suc, ◌<◌, ◌≤◌, List, Some, None, refl, sym, ◌∙◌, ap, inl, inr, arith}
use Rattle.std.specs.Prelude.{slice_get}
use Rattle.std.proofs.lemmas.Bool.{eq-eqb, ne_eqb, cond-true, cond-false, cases_eq}
use Rattle.vg_stree.specs.Specification.{Specification}
use Rattle.vg_stree.specs.declared.code.SStmt.{SStmt}
use Rattle.vg_smean.specs.Step.{Place, Goes, statement_by, statement_found, statements_before}

module _ (spec : Specification) (numbers : List ℕ) (port now : ℕ) where
  same_number : (number : ℕ) (place : Place) → statements_before spec numbers port now (suc number) number place
      ≡ statement_found spec numbers port now (statements_before spec numbers port now number) (slice_get spec.code.statements number) place
  unfolding statements_before
  same_number number place = cond-true _ _ _ (eq-eqb number number refl)

  step_down : (count number : ℕ) (place : Place) → number ≢ count → statements_before spec numbers port now (suc count) number place ≡ statements_before
      spec numbers port now count number place
  unfolding statements_before
  step_down count number place ne = cond-false _ _ _ (ne_eqb number count ne)

  pub found : (before number : ℕ) (place : Place) → number < before → statements_before spec numbers port now before number place
      ≡ statement_found spec numbers port now (statements_before spec numbers port now number) (slice_get spec.code.statements number) place
  found zero number place less = absurd (omega arith)
  found (suc count) number place less = elim (cases_eq number count) [
    | inl same ↦ ap (λ n. statements_before spec numbers port now (suc n) number place) (sym same) ∙ same_number number place
    | inr ne ↦ step_down count number place ne ∙ found count number place (omega arith)
  ]

  pub past : (before number : ℕ) (place : Place) → before ≤ number → statements_before spec numbers port now before number place ≡ Goes place
  unfolding statements_before
  past zero number place more = refl
  past (suc count) number place more = step_down count number place (λ same. omega arith) ∙ past count number place (omega arith)

  pub here : (before number : ℕ) (place : Place) (statement : SStmt) → number < before → slice_get spec.code.statements number ≡ Some statement →
      statements_before spec numbers port now before number place
      ≡ statement_by spec numbers port now (statements_before spec numbers port now number) statement place
  here before number place statement less is =
      found before number place less ∙ ap (λ o. statement_found spec numbers port now (statements_before spec numbers port now number) o place) is

  pub missing : (before number : ℕ) (place : Place) → number < before → slice_get spec.code.statements number ≡ None →
      statements_before spec numbers port now before number place ≡ Goes place
  missing before number place less is =
      found before number place less ∙ ap (λ o. statement_found spec numbers port now (statements_before spec numbers port now number) o place) is
