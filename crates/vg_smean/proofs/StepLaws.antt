-- The statements of a step are those of its list.
use Rattle.std.proofs.Common.{◌≡◌, ℕ, zero, suc, ◌≤◌, List, [], ◌∷◌, length, None, refl, sym, ◌∙◌, ap, inl, inr, arith}
use Rattle.std.specs.Prelude.{slice_get}
use Rattle.std.proofs.lemmas.Bool.{cases_lt}
use Rattle.vg_stree.specs.Specification.{Specification}
use Rattle.vg_smean.specs.Step.{Place, all_by, statement_of, statement_found, statements_before}
use Rattle.vg_smean.proofs.StatementLaws.{found, past}

none_there : {A : Type 0} (xs : List A) (i : ℕ) → length xs ≤ i → slice_get xs i ≡ None
none_there [] i past = refl
none_there (x ∷ xs) zero past = absurd (omega arith)
none_there (x ∷ xs) (suc i) past = none_there xs i (omega arith)

module _ (spec : Specification) (numbers : List ℕ) (port now : ℕ) where
  -- each statement of the list is known
  each : (known : ℕ) → known ≡ length spec.code.statements → (number : ℕ) (place : Place) →
      statements_before spec numbers port now known number place ≡ statement_of spec numbers port now number place
  each known all number place = elim (cases_lt number known) [
    | inl less ↦ found spec numbers port now known number place less ∙ sym (found spec numbers port now (suc number) number place (omega arith))
    | inr more ↦ past spec numbers port now known number place more
        ∙ sym (found spec numbers port now (suc number) number place (omega arith)
        ∙ ap (λ o. statement_found spec numbers port now (statements_before spec numbers port now number) o place)
        (none_there spec.code.statements number (omega arith)))
  ]

  pub all_known : (known : ℕ) (items : List ℕ) (place : Place) → known ≡ length spec.code.statements →
      all_by spec numbers port now (statements_before spec numbers port now known) items place
      ≡ all_by spec numbers port now (statement_of spec numbers port now) items place
  all_known known items place all = ap (λ statements. all_by spec numbers port now statements items place) (λ i number at. each known all number at i)
