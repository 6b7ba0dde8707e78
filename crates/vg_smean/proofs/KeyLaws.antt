-- The bytes of a key, field by field.
use Rattle.std.proofs.Common.{◌≡◌, ◌+◌, ◌<◌, ◌≤◌, ℕ, List, [], ◌∷◌, ◌++◌, length, drop, get_or, refl, sym, ◌∙◌, ap, drop-cons, add-one, append-nil}
use Rattle.std.proofs.Common.{append_assoc}
use Rattle.std.proofs.lemmas.List.{drop_all}
use Rattle.vg_stree.specs.declared.shape.Field.{Field}
use Rattle.vg_abs.specs.Fields.{bytes_in}
use Rattle.vg_smean.specs.Step.{key_bytes}

valueless : (fields : List Field) → key_bytes fields [] ≡ []
valueless [] = refl
valueless (field ∷ fields) = refl

pub no_value : (fields : List Field) (values bytes total : List ℕ) (i : ℕ) → length values ≤ i → bytes ++ key_bytes (drop i fields) (drop i values) ≡ total
    → bytes ≡ total
no_value fields values bytes total i past so_far =
    sym (append-nil bytes) ∙ ap (λ (xs : List ℕ). bytes ++ xs) (sym (ap (λ vs. key_bytes (drop i fields) vs) (drop_all i values past) ∙ valueless
    (drop i fields)))
    ∙ so_far

pub no_field : (fields : List Field) (values bytes total : List ℕ) (i : ℕ) → length fields ≤ i → bytes ++ key_bytes (drop i fields) (drop i values) ≡ total
    → bytes ≡ total
no_field fields values bytes total i past so_far =
    sym (append-nil bytes) ∙ ap (λ (xs : List ℕ). bytes ++ xs) (sym (ap (λ fs. key_bytes fs (drop i values)) (drop_all i fields past))) ∙ so_far

pub one_value : (fields : List Field) (values bytes total : List ℕ) (i value : ℕ) (field : Field) → i < length fields → i < length values
    → bytes ++ key_bytes (drop i fields) (drop i values) ≡ total →
    (bytes ++ bytes_in (get_or fields i field).of (get_or values i value)) ++ key_bytes (drop (i + 1) fields) (drop (i + 1) values) ≡ total
one_value fields values bytes total i value field less few so_far =
    let here : drop i fields ≡ get_or fields i field ∷ drop (i + 1) fields = rw add-one (drop-cons fields i field less) in
    let there : drop i values ≡ get_or values i value ∷ drop (i + 1) values = rw add-one (drop-cons values i value few) in
    append_assoc bytes (bytes_in (get_or fields i field).of (get_or values i value)) (key_bytes (drop (i + 1) fields) (drop (i + 1) values))
    ∙ ap (λ (xs : List ℕ). bytes ++ xs) (sym (ap (λ fs. key_bytes fs (drop i values)) here ∙ ap
    (λ vs. key_bytes (get_or fields i field ∷ drop (i + 1) fields) vs) there))
    ∙ so_far
